-- Silent reach: what it is, and the rounds that come to it.
use Rattle.std.specs.Prelude.{◌≡◌, ℕ, zero, suc, ◌<◌, true, cond, ◌&&◌, ◌||◌, ◌↔◌, List, [], ◌∷◌, ◌==◌, ◌≢◌, nat_lt}
use Rattle.theory.specs.Systems.{Step, Family, machine, silence}
use Rattle.theory.specs.Tables.{Table}
use Rattle.theory.specs.Bisimulations.{Silently}

-- T has just the variants, of V in all, in which silent steps lead from the one state to the other
abbrev pub Reaches : ℕ → Family → Table → Type 0
Reaches V F T = (s t v : ℕ) → s < F.states → t < F.states → v < V → (T s t v ≡ true) ↔ Silently (machine F v) s t

-- before the first round: every variant from a state to itself, n states
abbrev pub reach_begun : ℕ → ℕ → Table
reach_begun V n s t v = (nat_lt s n && nat_lt t n) && (s == t && nat_lt v V)

-- what x holds of the reach from i to the state it leaves joins the reach from i to the state it enters
abbrev pub joined : Step → ℕ → Table → Table
joined x i T s t v = T s t v || ((s == i && t == x.to) && (T i x.from v && x.held v))

-- the same from the states 0 .. i - 1, in this order
abbrev pub passed : Step → ℕ → Table → Table
passed x zero T = T
passed x (suc i) T = joined x i (passed x i T)

-- a step passes on from each of n states if it is silent
abbrev pub stepped : ℕ → Step → Table → Table
stepped n x T = cond (x.action == silence) (passed x n T) T

-- once through the steps, in the order of the list
abbrev pub round : ℕ → List Step → Table → Table
round n [] T = T
round n (x ∷ xs) T = round n xs (stepped n x T)

-- r rounds lead from T to U: the first round that enlarges no set is the last
pub data Rounds (n : ℕ) (xs : List Step) : Table → ℕ → Table → Type 0 where
  last : {T : Table} → round n xs T ≡ T → Rounds n xs T 1 T
  more : {T U : Table} {r : ℕ} → (round n xs T ≢ T) → Rounds n xs (round n xs T) r U → Rounds n xs T (suc r) U
