-- Words stored in a list from a place on; the words of steps and of nodes.
use Rattle.std.specs.Prelude.{◌≡◌, ℕ, zero, suc, ◌+◌, ◌%◌, min, List, [], ◌∷◌, ◌++◌, length}
use Rattle.std.proofs.lemmas.List.Edits.{sets}
use denote.Ref.{MutBor}

-- `new` is `old` with ws stored from `at` on, those past its end left out, and `next` is the place behind them, at most the end
pub record Added (old : List ℕ) (at : ℕ) (ws : List ℕ) (next : ℕ) (new : List ℕ) : Type 0 where
  pub end : next ≡ min (at + length ws) (length old)
  pub words : new ≡ sets old at ws

-- a step: kind, side, i, j, how many value words, value words
abbrev pub step : (kind side i j : ℕ) → List ℕ → List ℕ
step kind side i j vs = kind ∷ side ∷ i ∷ j ∷ length vs % 65536 ∷ vs

-- ws n times
unfoldable pub times : (n : ℕ) → List ℕ → List ℕ
times zero ws = []
times (suc n) ws = times n ws ++ ws

-- box or `new` of the name 10, about the next node
abbrev pub nested_node : (kind k : ℕ) → List ℕ
nested_node kind k = kind ∷ 10 ∷ (k + 1) % 65536 ∷ 0 ∷ 0 ∷ []

-- input or replicated input on `in` from the parent with the pattern at 0 of the pool, about the next node
abbrev pub input_node : (kind k : ℕ) → List ℕ
input_node kind k = kind ∷ 0 ∷ 1 ∷ 0 ∷ (k + 1) % 65536 ∷ []

-- n nodes from node k on, each by its number
unfoldable pub nodes_from : (node : ℕ → List ℕ) → (k n : ℕ) → List ℕ
nodes_from node k zero = []
nodes_from node k (suc n) = node k ++ nodes_from node (suc k) n

-- what a call of `post` makes of a list, of a place in it and of a number: the place that it answers, and the list that it leaves
pub record Turned (post : MutBor (List ℕ) → (at k next : ℕ) → MutBor (List ℕ) → Type 0) (old : List ℕ) (at k next : ℕ) (new : List ℕ) : Type 0 where
  pub shown : MutBor (List ℕ)
  pub shows : shown.now ≡ old
  pub left : MutBor (List ℕ)
  pub met : post shown at k next left
  pub leaves : left.now ≡ new

-- what n turns make of them, one after another, for the numbers from k on
unfoldable pub Turns : (turn : (old : List ℕ) (at k next : ℕ) (new : List ℕ) → Type 0) → (k n : ℕ) → (old : List ℕ) → (at next : ℕ) → (new : List ℕ) → Type 0
Turns turn k zero old at next new = (next ≡ at) × (new ≡ old)
Turns turn k (suc n) old at next new = (e : ℕ) × (mid : List ℕ) × Turns turn k n old at e mid × turn mid e (k + n) next new
