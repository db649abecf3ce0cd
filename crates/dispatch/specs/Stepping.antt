-- What a side's step is given, and the model's step by the parts that the functions have.
use Rattle.std.specs.Prelude.{◌≡◌, Bool, true, List, ℕ, ◌+◌, ◌<◌, ◌≤◌, eqb, length}
use Rattle.model.specs.Basics.{choose, Res, refuse, need}
use Rattle.model.specs.Side.{Core}
use Rattle.model.specs.Wrapper.{Wrapper, described}
use Rattle.model.specs.Load.{Setting}
use Rattle.model.specs.WellFormed.{Counts, wf_core}
use Rattle.model.specs.Step.{Step, Moved, go_down, up, pass, leave, descend, meet, local, settled}
use Rattle.tables.specs.Nodes.{table}
use Rattle.tables.specs.Checks.{Passes}
use Rattle.std.specs.Prelude.{Some, None}
use Rattle.wrappers.specs.Routes.{source_for}
use Rattle.steps.specs.declared.Offer.{Offer}
use Rattle.steps.specs.declared.Offer.TheVariants.{At, Refused}
use Rattle.steps.specs.declared.RestStep.{RestStep}
use Rattle.steps.specs.Asked.{known_by}
use Rattle.steps.specs.StepIs.{StepIs}
use Rattle.sides.specs.declared.Rest.{Rest}
use Rattle.sides.specs.Sides.{core_of, fits_side}

-- what a side is run with, by the wrapper's number and its slices
abbrev pub setting_of : (wrapper side : ℕ) → (nodes pool : List ℕ) → Setting
setting_of w n ns ws = record { wrapper = described w; side = n; table = table ns ws }

-- the step asked for
abbrev pub asked : (kind side i j : ℕ) → List ℕ → Step
asked k n i j ws = record { kind = k; side = n; i = i; j = j; words = ws }

-- the shelves that a step may take from, by their sides' numbers
abbrev pub ShelvesBy : Type 0
ShelvesBy = ℕ → List (List ℕ)

-- the model's step x of a side that is run with c, beside all sides' marks ms and shelves sh: from the words l and the rest o to the words m and the answer r
abbrev pub LocalIs : Setting → List (List Bool) → ShelvesBy → Step → List ℕ → Rest → List ℕ → RestStep → Type 0
LocalIs c ms sh x l o m r = StepIs (settled (local c (known_by ms) sh (core_of l o) x)) l o m r

-- the place of the side that the route by j leads from, or 10 where there is no route
abbrev pub RouteOffer : Wrapper → (side j : ℕ) → Offer → Type 0
RouteOffer w n j (At p) = Some (p + 1) ≡ source_for w n j
RouteOffer w n j (Refused x) = (x ≡ 10) × (None ≡ source_for w n j)

-- kind 2, 3, 6 or 7
pub record OnePlaceKind (k : ℕ) : Type 0 where
  pub first : 2 ≤ k
  pub last : k ≤ 7
  pub not_4 : k ≡ 4 → ⊥
  pub not_5 : k ≡ 5 → ⊥

-- kinds 2, 3, 6 and 7, with copies on these channels
unfoldable pub one_place : Setting → (copies : List ℕ) → Core → (kind i : ℕ) → Res Moved
one_place c cs s k i =
    choose (eqb k 2) (go_down s i) (choose (eqb k 3) (up c s i) (choose (eqb k 6) (pass cs s i) (choose (eqb k 7) (leave s i) (refuse 10))))

-- kinds 2 to 7
unfoldable pub two_places : Setting → Core → (kind i j : ℕ) → Res Moved
two_places c s k i j = choose (eqb k 4) (descend s i j) (choose (eqb k 5) (meet c s i j) (need (eqb j 0) 10 (one_place c c.wrapper.copies s k i)))

-- a side that a step may act on: its table passes the checks, its counts are within their arrays, and it is well formed
pub record OwnReady (c : Setting) (l : List ℕ) (o : Rest) : Type 0 where
  pub narrow : c.side < 65536
  pub passes : Passes c.table
  pub long : length l ≡ 5184
  pub arrays : fits_side l o ≡ true
  pub counts : Counts
  pub formed : wf_core c counts (core_of l o) ≡ true
