-- Sweeps over a table by a rule, what they strike, and the rule of simulations as a test.
use Rattle.std.specs.Prelude.{ℕ, zero, suc, ◌+◌, Bool, true, false, cond, not, ◌&&◌, ◌||◌, List, [], ◌∷◌, ◌==◌, nat_lt}
use Rattle.theory.specs.Sets.{Variants, gone}
use Rattle.theory.specs.Counts.{sum_below}
use Rattle.theory.specs.Systems.{Step, Family, agree}
use Rattle.theory.specs.Tables.{Table}

-- a rule says, of a table, whether it keeps a variant at a pair of states
abbrev pub Rule : Type 0
Rule = Table → ℕ → ℕ → ℕ → Bool

-- after a visit of the pair (s, t): there only what the rule keeps, elsewhere as before
abbrev pub visited : Rule → Table → ℕ → ℕ → Table
visited rule T s t s' t' v = cond (s' == s && t' == t) (T s t v && rule T s t v) (T s' t' v)

-- after the visits of (s, 0) .. (s, k - 1), in this order
abbrev pub row_visited : Rule → Table → ℕ → ℕ → Table
row_visited rule T s zero = T
row_visited rule T s (suc k) = visited rule (row_visited rule T s k) s k

-- after the visits of the rows 0 .. k - 1 of m pairs each, in this order
abbrev pub rows_visited : Rule → ℕ → Table → ℕ → Table
rows_visited rule m T zero = T
rows_visited rule m T (suc k) = row_visited rule (rows_visited rule m T k) k m

module _ (V : ℕ) (rule : Rule) where
  -- how many variants below V the visits of (s, 0) .. (s, k - 1) strike, each at its own pair
  abbrev pub row_struck : Table → ℕ → ℕ → ℕ
  row_struck T s zero = 0
  row_struck T s (suc k) = row_struck T s k + gone V (row_visited rule T s k s k) (row_visited rule T s (suc k) s k)

  -- how many the visits of the rows 0 .. k - 1 of m pairs each strike
  abbrev pub rows_struck : ℕ → Table → ℕ → ℕ
  rows_struck m T zero = 0
  rows_struck m T (suc k) = rows_struck m T k + row_struck (rows_visited rule m T k) k m

-- how many variants below V, over n rows of m pairs, T has and U lacks
abbrev pub removed : (V n m : ℕ) → Table → Table → ℕ
removed V n m T U = sum_below n (λ s. sum_below m (λ t. gone V (T s t) (U s t)))

-- the right step r leaves t, has l's action, holds v, and enters with l a pair at which T has v
abbrev pub answers : Table → ℕ → Step → ℕ → Step → Bool
answers T t l v r = r.from == t && (r.action == l.action && (r.held v && T l.to r.to v))

-- some step of rs answers l
abbrev pub answered : List Step → Table → ℕ → Step → ℕ → Bool
answered [] T t l v = false
answered (r ∷ rs) T t l v = answers T t l v r || answered rs T t l v

-- the left step l leaves s and holds v
abbrev pub applies : ℕ → ℕ → Step → Bool
applies s v l = l.from == s && l.held v

-- every step of ls that leaves s and holds v is answered by a step of rs
abbrev pub kept : List Step → List Step → Rule
kept [] rs T s t v = true
kept (l ∷ ls) rs T s t v = (not (applies s v l) || answered rs T t l v) && kept ls rs T s t v

module _ (L R : Family) where
  -- the sweep rule of simulations, as a test
  abbrev pub keeps : Rule
  keeps = kept L.steps R.steps

  -- after one sweep: a visit of every pair, row by row, each sees what the visits before it left
  abbrev pub swept : Table → Table
  swept T = rows_visited keeps R.states T L.states

  -- the strikes of one sweep: how many variants below V it removes
  abbrev pub strikes : ℕ → Table → ℕ
  strikes V T = removed V L.states R.states T (swept T)

  -- begin's table: the list at pairs of states with equal labels, elsewhere nothing
  abbrev pub begun : Variants → Table
  begun listed s t v = (nat_lt s L.states && nat_lt t R.states) && (agree L R s t && listed v)

  -- how many listed variants below V the pairs with equal labels have lost
  abbrev pub lost : ℕ → Variants → Table → ℕ
  lost V listed T = removed V L.states R.states (begun listed) T
