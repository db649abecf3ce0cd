-- A step at one place of the words of all sides, and the marks of all sides after it.
use Rattle.std.specs.Prelude.{◌≡◌, Bool, true, false, List, [], ◌∷◌, map, ℕ, zero, suc, ◌-◌, ◌<◌, length, get_or, set}
use Rattle.model.specs.Basics.{Res}
use Rattle.model.specs.Side.{Side, State}
use Rattle.model.specs.Wrapper.{all_sides}
use Rattle.model.specs.Load.{Setting}
use Rattle.model.specs.Step.{Step, Moved, local, settled, mark_all}
use Rattle.sides.specs.declared.Rest.{Rest}
use Rattle.sides.specs.Layout.{view_shelf, fits_shelf}
use Rattle.sides.specs.Sides.{core_of, fits_side, side_of}
use Rattle.steps.specs.declared.Said.{Said}
use Rattle.steps.specs.declared.Said.TheVariants as said
use Rattle.steps.specs.declared.RestStep.{RestStep}
use Rattle.steps.specs.Asked.{known_by}
use Rattle.steps.specs.StepIs.{StepIs}
use Rattle.dispatch.specs.Stepping.{LocalIs, OwnReady}

-- side n's shelf, by the words of all sides and how many values each has on its shelf; there is no side 0
abbrev pub shelves_in : List (List ℕ) → List ℕ → ℕ → List (List ℕ)
shelves_in ls ns zero = []
shelves_in ls ns (suc k) = view_shelf (get_or ls k []) (get_or ns k 0)

-- how many values each side has on its shelf
abbrev pub shelved_of : List Rest → List ℕ
shelved_of os = map (λ (o : Rest). o.shelved) os

-- each side has its words, and a shelf within its array
pub record Shelves (ls : List (List ℕ)) (ns : List ℕ) : Type 0 where
  pub long : (k : ℕ) → k < length all_sides → length (get_or ls k []) ≡ 5184
  pub fits : (k : ℕ) → k < length all_sides → fits_shelf (get_or ls k []) (get_or ns k 0) ≡ true

-- the sides that are lent: their words, the rests, the marks
unfoldable pub sides_in : List (List ℕ) → List Rest → List (List Bool) → List Side
sides_in [] os ms = []
sides_in (l ∷ ls) [] ms = []
sides_in (l ∷ ls) (o ∷ os) [] = []
sides_in (l ∷ ls) (o ∷ os) (m ∷ ms) = side_of l o m ∷ sides_in ls os ms

-- the state that they are
abbrev pub state_in : List (List ℕ) → List Rest → List (List Bool) → State
state_in ls os ms = record { sides = sides_in ls os ms }

-- each of the sides is there, with its words, and every count is within its array
pub record Lent (ls : List (List ℕ)) (os : List Rest) (ms : List (List Bool)) : Type 0 where
  pub words : length ls ≡ length all_sides
  pub rests : length os ≡ length all_sides
  pub marks : length ms ≡ length all_sides
  pub long : (k : ℕ) → k < length all_sides → length (get_or ls k []) ≡ 5184
  pub fits : (k : ℕ) (d : Rest) → k < length all_sides → fits_side (get_or ls k []) (get_or os k d) ≡ true

-- the step x of the side at place k with the rest o: the words of the others stay
pub record AtSide (x : Res Moved) (ls : List (List ℕ)) (k : ℕ) (o : Rest) (ms : List (List ℕ)) (r : RestStep) : Type 0 where
  pub words : List ℕ
  pub others : ms ≡ set ls k words
  pub step : StepIs x (get_or ls k []) o words r

-- what a step of the side that c names is given: the words, the marks and the shelves of all sides, and a side that may act
abbrev pub SideReady : Setting → (marks : List (List Bool)) → (words : List (List ℕ)) → (shelved : List ℕ) → Rest → Type 0
SideReady c ms ls ns o =
    (length ls ≡ length all_sides) × (length ms ≡ length all_sides) × (0 < c.side) × (c.side - 1 < length all_sides) × (OwnReady c (get_or ls (c.side - 1) []) o) × Shelves ls ns

-- the model's step x of the side at place k, run with c: no word changes, and r is the answer
abbrev pub StillAt : Setting → (marks : List (List Bool)) → (words : List (List ℕ)) → (shelved : List ℕ) → Step → ℕ → Rest → RestStep → Type 0
StillAt c ms ls ns x k o r = LocalIs c ms (shelves_in ls ns) x (get_or ls k []) o (get_or ls k []) r

-- the model's step x of the side that c names: to all words ls', in which those of the others stay, and the answer r
abbrev pub LocalAt : Setting → (marks : List (List Bool)) → (words : List (List ℕ)) → (shelved : List ℕ) → Step → Rest → List (List ℕ) → RestStep → Type 0
LocalAt c ms ls ns x o ls' r = AtSide (settled (local c (known_by ms) (shelves_in ls ns) (core_of (get_or ls (c.side - 1) []) o) x)) ls (c.side - 1) o ls' r

-- what is said is that a value left, on `out` or on `log`
abbrev pub says_left : Said → Bool
says_left said.In = false
says_left said.Out = true
says_left said.Log = true
says_left said.Silent = false
says_left (said.Refused n) = false

-- a side's marks after what is said with the words v
abbrev pub marked_by : Said → List ℕ → List Bool → List Bool
marked_by said.In v l = l
marked_by said.Out v l = mark_all l v
marked_by said.Log v l = mark_all l v
marked_by said.Silent v l = l
marked_by (said.Refused n) v l = l

-- the marks of all sides after what the side at place k says
pub record MarkedAt (s : Said) (v : List ℕ) (ls : List (List Bool)) (k : ℕ) (ms : List (List Bool)) : Type 0 where
  pub is : ms ≡ set ls k (marked_by s v (get_or ls k []))
