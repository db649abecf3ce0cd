-- What a verdict of the checker means, said of the lists of words as they are and not of the checker's way.
use Rattle.std.specs.Prelude.{◌≡◌, true, false, List, [], ◌∷◌, ◌++◌, ◌⊎◌, ℕ, ◌≤◌, length}
use Rattle.model.specs.Basics.{every}
use Rattle.model.specs.Side.{State}
use Rattle.model.specs.Load.{Composition, refused, ok, load}
use Rattle.model.specs.Step.{Step, Answer, step}
use Rattle.model.specs.Runs.{answers, after_all}
use Rattle.format.specs.Words.{step_words, all_step_words}
use Rattle.claims.specs.Claims.{visible, is_label, Verdict, accepted, unloaded, step_at_fault, label_at_fault, check_trace, number_of, side_in, index_of}

-- the visible labels of some answers, and records one behind another
abbrev pub all_visible : List Answer → List (List ℕ)
all_visible [] = []
all_visible (a ∷ xs) = visible a ++ all_visible xs

abbrev pub joined : List (List ℕ) → List ℕ
joined [] = []
joined (r ∷ rs) = r ++ joined rs

-- the load succeeds, and some steps from there are all legal
pub record Legal (b : Composition) (xs : List Step) : Type 0 where
  pub state : State
  pub loads : load b ≡ ok state
  pub legal : every is_label (answers b state xs) ≡ true

-- what comes out of them
abbrev pub labels_of : {b : Composition} {xs : List Step} → Legal b xs → List (List ℕ)
labels_of {b} {xs} h = all_visible (answers b h.state xs)

-- ACCEPTED: the load succeeds, the words are those of some steps, all legal, and the claimed labels are what comes out, none missing or over
pub record Accepts (b : Composition) (ws ls : List ℕ) : Type 0 where
  pub steps : List Step
  pub runs : Legal b steps
  pub words : ws ≡ all_step_words steps
  pub labels : ls ≡ joined (labels_of runs)

-- 20 at k: the first k records are legal steps; behind them is something, and at its front no record of a step that is legal there
pub record StepFaulty (b : Composition) (ws : List ℕ) (k : ℕ) : Type 0 where
  pub steps : List Step
  pub many : length steps ≡ k
  pub runs : Legal b steps
  pub rest : List ℕ
  pub words : ws ≡ all_step_words steps ++ rest
  pub more : rest ≡ [] → ⊥
  pub illegal : (x : Step) (behind : List ℕ) → rest ≡ step_words x ++ behind → is_label (step b (after_all b runs.state steps) x).answer ≡ false

-- 21 at k: all steps are legal, the first k labels that come out are the first k that are claimed, and there the two part: neither
-- do both end, nor does the next that comes out stand next among the claimed
pub record LabelFaulty (b : Composition) (ws ls : List ℕ) (k : ℕ) : Type 0 where
  pub steps : List Step
  pub runs : Legal b steps
  pub words : ws ≡ all_step_words steps
  pub same : List (List ℕ)
  pub others : List (List ℕ)
  pub many : length same ≡ k
  pub trace : labels_of runs ≡ same ++ others
  pub rest : List ℕ
  pub claimed : ls ≡ joined same ++ rest
  pub ends : others ≡ [] → rest ≡ [] → ⊥
  pub parts : (v : List ℕ) (vs : List (List ℕ)) (behind : List ℕ) → others ≡ v ∷ vs → rest ≡ v ++ behind → ⊥

-- what each verdict means
abbrev pub Means : Composition → (steps labels : List ℕ) → Verdict → Type 0
Means b ws ls accepted = Accepts b ws ls
Means b ws ls (unloaded e) = load b ≡ refused e
Means b ws ls (step_at_fault k) = StepFaulty b ws k
Means b ws ls (label_at_fault k) = LabelFaulty b ws ls k

-- the checker's verdict is the one that holds, and no other holds
unfoldable pub VerdictIff : Type 0
VerdictIff = (b : Composition) (ws ls : List ℕ) (v : Verdict) → (check_trace b ws ls ≡ v → Means b ws ls v) × (Means b ws ls v → check_trace b ws ls ≡ v)

-- document 02's sentence: it accepts exactly when the load succeeds, every step is legal and the visible labels come out as claimed
unfoldable pub AcceptsIff : Type 0
AcceptsIff = (b : Composition) (ws ls : List ℕ) → (check_trace b ws ls ≡ accepted → Accepts b ws ls) × (Accepts b ws ls → check_trace b ws ls ≡ accepted)

-- DEMAND 1's numbers: 0 where it accepts, load's own from 1 to 7 with its side and node, 20 with the first step at fault, 21 with the first label at fault, and no other
unfoldable pub CheckNumbers : Type 0
CheckNumbers = (b : Composition) (ws ls : List ℕ) →
    let v = check_trace b ws ls in
    ((number_of v ≡ 0) × Accepts b ws ls)
    ⊎ ((1 ≤ number_of v) × (number_of v ≤ 7) × (load b ≡ refused (record { number = number_of v; side = side_in v; node = index_of v })))
    ⊎ ((number_of v ≡ 20) × StepFaulty b ws (index_of v))
    ⊎ ((number_of v ≡ 21) × LabelFaulty b ws ls (index_of v))
