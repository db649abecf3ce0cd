-- The state that the lent words, the rests and the marks of all sides are, and a side's step in it.
use mathlib.Core.Path.{◌≡◌, refl, sym, ap, ap₂, subst, ◌∙◌, fun_ext}
use mathlib.Core.Bool.{Bool, true, false, ◌||◌, false≢true}
use mathlib.Core.List.{List, [], ◌∷◌, map}
use Prim.Native.Nat.{ℕ, zero, suc, ◌+◌, ◌-◌, ◌<◌, ◌≤◌}
use native.Mathlib.Omega.{arith}
use lib.ListN.{length, get_or, set}
use lib.Seq.{set-get_or}
use Rattle.model.specs.Basics.{Res, refuse, done, one_of}
use Rattle.model.specs.Table.{Table}
use Rattle.model.specs.Side.{Core, Side, State, no_side, side, put_side}
use Rattle.model.specs.Wrapper.{all_sides}
use Rattle.model.specs.Load.{Composition, wrapper_of, setting}
use Rattle.model.specs.Load.{table as table_of}
use Rattle.model.specs.WellFormed.{shelf_of}
use Rattle.model.specs.Step.{Label, silent, enters, leaves, logs, Step, Moved, settled, local, takes, marked, marks, mark_all, known, side_after}
use Rattle.values.specs.Env.{view_value}
use Rattle.tables.specs.Nodes as slices
use Rattle.std.specs.Prelude.{Some}
use Rattle.sides.specs.declared.Rest.{Rest}
use Rattle.sides.specs.Layout.{view_shelf, fits_shelf}
use Rattle.sides.specs.Sides.{core_of, side_of}
use Rattle.steps.specs.declared.Said.{Said}
use Rattle.steps.specs.declared.Said.TheVariants as said
use Rattle.steps.specs.StepIs.{label_of}
use Rattle.steps.specs.declared.RestStep.{RestStep}
use Rattle.steps.specs.Asked.{Source, known_by}
use Rattle.steps.specs.StepIs.{StepIs}
use Rattle.steps.proofs.Held.{side_shelf}
use Rattle.dispatch.specs.Stepping.{setting_of}
use Rattle.dispatch.specs.Sharing.{shelves_in, shelved_of, Shelves, sides_in, state_in, Lent, AtSide, says_left, marked_by, MarkedAt}

-- a side that is not there would have this rest
module _ (d : Rest) where
  -- THE SIDES BY THEIR PLACES
  pub sides_at : (ls : List (List ℕ)) (os : List Rest) (ms : List (List Bool)) (k : ℕ) → k < length ls → k < length os → k < length ms →
      get_or (sides_in ls os ms) k no_side ≡ side_of (get_or ls k []) (get_or os k d) (get_or ms k [])
  unfolding sides_in
  sides_at [] os ms k a b c = absurd (omega arith)
  sides_at (l ∷ ls) [] ms k a b c = absurd (omega arith)
  sides_at (l ∷ ls) (o ∷ os) [] k a b c = absurd (omega arith)
  sides_at (l ∷ ls) (o ∷ os) (m ∷ ms) zero a b c = refl
  sides_at (l ∷ ls) (o ∷ os) (m ∷ ms) (suc k) a b c = sides_at ls os ms k (omega arith) (omega arith) (omega arith)

-- one put anew
pub sides_set : (ls : List (List ℕ)) (os : List Rest) (ms : List (List Bool)) (k : ℕ) (l : List ℕ) (o : Rest) (m : List Bool) → length os ≡ length ls → length ms ≡ length ls →
    sides_in (set ls k l) (set os k o) (set ms k m) ≡ set (sides_in ls os ms) k (side_of l o m)
unfolding sides_in
sides_set [] os ms k l o m a b = refl
sides_set (x ∷ ls) [] ms k l o m a b = absurd (omega arith)
sides_set (x ∷ ls) (y ∷ os) [] k l o m a b = absurd (omega arith)
sides_set (x ∷ ls) (y ∷ os) (z ∷ ms) zero l o m a b = refl
sides_set (x ∷ ls) (y ∷ os) (z ∷ ms) (suc k) l o m a b = ap (λ (s : List Side). side_of x y z ∷ s) (sides_set ls os ms k l o m (omega arith) (omega arith))

-- their marks
sides_left : (ls : List (List ℕ)) (os : List Rest) (ms : List (List Bool)) (w : ℕ) → length os ≡ length ls → length ms ≡ length ls → one_of (λ o. marked o.left w) (sides_in ls os ms) ≡ one_of (λ l. marked l w) ms
unfolding sides_in
sides_left [] os [] w a b = refl
sides_left [] os (m ∷ ms) w a b = absurd (omega arith)
sides_left (l ∷ ls) [] ms w a b = absurd (omega arith)
sides_left (l ∷ ls) (o ∷ os) [] w a b = absurd (omega arith)
sides_left (l ∷ ls) (o ∷ os) (m ∷ ms) w a b = ap (λ (x : Bool). marked m w || x) (sides_left ls os ms w (omega arith) (omega arith))

-- their shelves, where nothing stands past the last
sides_shelf : (ls : List (List ℕ)) (os : List Rest) (ms : List (List Bool)) (k : ℕ) → length os ≡ length ls → length ms ≡ length ls →
    (get_or (sides_in ls os ms) k no_side).core.shelf ≡ shelves_in ls (map (λ (o : Rest). o.shelved) os) (suc k)
unfolding sides_in
sides_shelf [] [] ms k a b = none k
  where
    none : (k : ℕ) → (get_or (sides_in [] [] ms) k no_side).core.shelf ≡ shelves_in [] [] (suc k)
    none zero = refl
    none (suc k) = refl
sides_shelf [] (o ∷ os) ms k a b = absurd (omega arith)
sides_shelf (l ∷ ls) [] ms k a b = absurd (omega arith)
sides_shelf (l ∷ ls) (o ∷ os) [] k a b = absurd (omega arith)
sides_shelf (l ∷ ls) (o ∷ os) (m ∷ ms) zero a b = refl
sides_shelf (l ∷ ls) (o ∷ os) (m ∷ ms) (suc k) a b = sides_shelf ls os ms k (omega arith) (omega arith)

-- a side by its number
pub side_by_lem : (s : State) (n : ℕ) → 0 < n → side s n ≡ get_or s.sides (n - 1) no_side
side_by_lem s zero h = absurd (omega arith)
side_by_lem s (suc n) h = let z : suc n - 1 ≡ n = omega arith in ap (λ (k : ℕ). get_or s.sides k no_side) (sym z)

pub put_by : (s : State) (n : ℕ) (o : Side) → 0 < n → put_side s n o ≡ record { sides = set s.sides (n - 1) o }
put_by s zero o h = absurd (omega arith)
put_by s (suc n) o h = let z : suc n - 1 ≡ n = omega arith in ap (λ (k : ℕ). record { sides = set s.sides k o }) (sym z)

module _ (ls : List (List ℕ)) (os : List Rest) (ms : List (List Bool)) (lent : Lent ls os ms) where
  abbrev st : State
  st = state_in ls os ms

  same_rests : length os ≡ length ls
  same_rests = lent.rests ∙ sym lent.words

  same_marks : length ms ≡ length ls
  same_marks = lent.marks ∙ sym lent.words

  known_is : known st ≡ known_by ms
  known_is = fun_ext (λ w. sides_left ls os ms w same_rests same_marks)

  shelf_is : shelf_of st ≡ shelves_in ls (shelved_of os)
  shelf_is = fun_ext by
    where
      by : (n : ℕ) → shelf_of st n ≡ shelves_in ls (shelved_of os) n
      by zero = refl
      by (suc k) = sides_shelf ls os ms k same_rests same_marks

  -- the side at place k of what is lent
  module _ (d : Rest) (n : ℕ) (pos : 0 < n) (h : n - 1 < length all_sides) where
    pub side_is : side st n ≡ side_of (get_or ls (n - 1) []) (get_or os (n - 1) d) (get_or ms (n - 1) [])
    side_is = side_by_lem st n pos ∙ sides_at d ls os ms (n - 1) (omega (arith, lent.words)) (omega (arith, lent.rests)) (omega (arith, lent.marks))

    -- THE MODEL'S STEP is that of what is lent
    pub local_is : (b : Composition) (nodes pool : List ℕ) (x : Step) → table_of b n ≡ slices.table nodes pool →
        local (setting b n) (known st) (shelf_of st) (side st n).core x ≡ local (setting_of b.wrapper n nodes pool) (known_by ms) (shelves_in ls (shelved_of os)) (core_of (get_or ls (n - 1) []) (get_or os (n - 1) d)) x
    local_is b nodes pool x e =
        ap (λ (t : Table). local (record { wrapper = wrapper_of b; side = n; table = t }) (known st) (shelf_of st) (side st n).core x) e ∙
        ap (λ (f : ℕ → Bool). local (setting_of b.wrapper n nodes pool) f (shelf_of st) (side st n).core x) known_is ∙
        ap (λ (f : ℕ → List (List ℕ)). local (setting_of b.wrapper n nodes pool) (known_by ms) f (side st n).core x) shelf_is ∙
        ap (λ (o : Side). local (setting_of b.wrapper n nodes pool) (known_by ms) (shelves_in ls (shelved_of os)) o.core x) side_is

-- what is asked of the shelves
pub shelves_of : (ls : List (List ℕ)) (os : List Rest) (ms : List (List Bool)) → Lent ls os ms → (hs : List ℕ) → hs ≡ shelved_of os → Shelves ls hs
shelves_of ls os ms lent hs e = record { long = lent.long; fits = λ k h. subst (λ (n : ℕ). fits_shelf (get_or ls k []) n ≡ true) (sym (at k h)) (side_shelf (get_or ls k []) (get_or os k (nth k)) (lent.fits k (nth k) h)) }
  where
    nth : ℕ → Rest
    nth k = record { particles = 0; boxes = 0; shelved = 0; minted = 0; lobby = record { msgs = []; len = 0 }; taken = [] }

    map_at : (os : List Rest) (k : ℕ) → get_or (map (λ (o : Rest). o.shelved) os) k 0 ≡ (get_or os k (nth k)).shelved
    map_at [] zero = refl
    map_at [] (suc k) = refl
    map_at (o ∷ os) zero = refl
    map_at (o ∷ os) (suc k) = map_at os k

    at : (k : ℕ) → k < length all_sides → get_or hs k 0 ≡ (get_or os k (nth k)).shelved
    at k h = ap (λ (l : List ℕ). get_or l k 0) e ∙ map_at os k

-- WHAT A SIDE IS AFTER ITS STEP
marks_by : (s : Said) (l : Label) (v : List ℕ) (m : List Bool) → label_of s ≡ done l → marked_by s v m ≡ marks l v m
marks_by said.In l v m e = let z : enters ≡ l = cc in ap (λ (x : Label). marks x v m) z
marks_by said.Out l v m e = let z : leaves ≡ l = cc in ap (λ (x : Label). marks x v m) z
marks_by said.Log l v m e = let z : logs ≡ l = cc in ap (λ (x : Label). marks x v m) z
marks_by said.Silent l v m e = let z : silent ≡ l = cc in ap (λ (x : Label). marks x v m) z
marks_by (said.Refused n) l v m e = let z : ◌≡◌ {A = ℕ} 0 1 = cc in absurd (omega arith)

pub side_after_lem : (x : Res Moved) (l : List ℕ) (o : Rest) (m : List Bool) (w : List ℕ) (r : RestStep) → StepIs x l o w r → side_of w r.rest (marked_by r.said (view_value r.value) m) ≡ side_after (side_of l o m) x
side_after_lem (refuse n) l o m w r h = same (ap₂ core_of h.is.words h.is.kept) (ap (λ (s : Said). marked_by s (view_value r.value) m) h.is.says)
  where
    same : {a b : Core} {p q : List Bool} → a ≡ b → p ≡ q → ◌≡◌ {A = Side} (record { core = a; left = p }) (record { core = b; left = q })
    same p q = rw (p, q)
side_after_lem (done d) l o m w r h = same h.is.core (marks_by r.said d.label (view_value r.value) m h.is.says ∙ ap (λ (v : List ℕ). marks d.label v m) h.is.value)
  where
    same : {a b : Core} {p q : List Bool} → a ≡ b → p ≡ q → ◌≡◌ {A = Side} (record { core = a; left = p }) (record { core = b; left = q })
    same p q = rw (p, q)

-- A STEP AT ITS PLACE of the words of all sides: no word changes, or the words y come back
module _ (x : List ℕ → Res Moved) (ls : List (List ℕ)) (k m : ℕ) (same : k ≡ m) (o : Rest) (r : RestStep) where
  pub at_still : StepIs (x (get_or ls k [])) (get_or ls k []) o (get_or ls k []) r → AtSide (x (get_or ls m [])) ls m o ls r
  at_still h = record {
    words = get_or ls m [];
    others = sym (set-get_or ls m []);
    step = subst (λ (j : ℕ). StepIs (x (get_or ls j [])) (get_or ls j []) o (get_or ls j []) r) same h;
  }

  pub at_moved : (y : List ℕ) → StepIs (x (get_or ls k [])) (get_or ls k []) o y r → AtSide (x (get_or ls m [])) ls m o (set ls k y) r
  at_moved y h = record { words = y; others = ap (λ (j : ℕ). set ls j y) same; step = subst (λ (j : ℕ). StepIs (x (get_or ls j [])) (get_or ls j []) o y r) same h }

-- the shelf of a source, and a take from it
shelves_at : (ls : List (List ℕ)) (ns : List ℕ) (m : ℕ) → 0 < m → shelves_in ls ns m ≡ view_shelf (get_or ls (m - 1) []) (get_or ns (m - 1) 0)
shelves_at ls ns zero h = absurd (omega arith)
shelves_at ls ns (suc k) h = let z : suc k - 1 ≡ k = omega arith in ap (λ (j : ℕ). view_shelf (get_or ls j []) (get_or ns j 0)) (sym z)

pub place_number : (p m : ℕ) → p ≡ m - 1 → 0 < m → Some (p + 1) ≡ Some m
place_number p m e h = let z : p + 1 ≡ m = omega (arith, e, h) in ap Some z

pub take_is : (ls : List (List ℕ)) (ns : List ℕ) (p : ℕ) (s : Core) (i q : ℕ) → q ≡ i →
    settled (takes (p + 1) (shelves_in ls ns (p + 1)) s i) ≡ settled (takes (p + 1) (view_shelf (get_or ls p []) (get_or ns p 0)) s q)
take_is ls ns p s i q e =
    let h : 0 < p + 1 = omega arith in
    let same : p + 1 - 1 ≡ p = omega arith in
    ap (λ (sh : List (List ℕ)). settled (takes (p + 1) sh s i)) (shelves_at ls ns (p + 1) h ∙ ap (λ (j : ℕ). view_shelf (get_or ls j []) (get_or ns j 0)) same) ∙
    ap (λ (y : ℕ). settled (takes (p + 1) (view_shelf (get_or ls p []) (get_or ns p 0)) s y)) (sym e)

pub source_is : (ls : List (List ℕ)) (ns : List ℕ) (p : ℕ) → Shelves ls ns → p + 1 ≤ length all_sides → Source (p + 1) (get_or ls p []) (get_or ns p 0)
source_is ls ns p s h =
    let z : p < length all_sides = omega (arith, h) in
    record { first = omega arith; last = h; long = s.long p z; fits = s.fits p z }

-- MARKS after what is said
pub marked_left : (s : Said) (v : List ℕ) (ls : List (List Bool)) (k m : ℕ) (y : List Bool) → says_left s ≡ true → k ≡ m → y ≡ mark_all (get_or ls k []) v → MarkedAt s v ls m (set ls k y)
marked_left said.In v ls k m y e same q = absurd (false≢true e)
marked_left said.Out v ls k m y e same q = record { is = ap (set ls k) q ∙ ap (λ (j : ℕ). set ls j (mark_all (get_or ls j []) v)) same }
marked_left said.Log v ls k m y e same q = record { is = ap (set ls k) q ∙ ap (λ (j : ℕ). set ls j (mark_all (get_or ls j []) v)) same }
marked_left said.Silent v ls k m y e same q = absurd (false≢true e)
marked_left (said.Refused n) v ls k m y e same q = absurd (false≢true e)

pub marked_not : (s : Said) (v : List ℕ) (ls : List (List Bool)) (m : ℕ) → says_left s ≡ false → MarkedAt s v ls m ls
marked_not said.In v ls m e = record { is = sym (set-get_or ls m []) }
marked_not said.Out v ls m e = absurd (false≢true (sym e))
marked_not said.Log v ls m e = absurd (false≢true (sym e))
marked_not said.Silent v ls m e = record { is = sym (set-get_or ls m []) }
marked_not (said.Refused n) v ls m e = record { is = sym (set-get_or ls m []) }
