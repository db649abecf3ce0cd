-- The sides at their start, one after another.
use mathlib.Core.Path.{◌≡◌, refl, sym, ap, ap₂, subst, ◌∙◌}
use mathlib.Core.Bool.{Bool, true, false, cond}
use mathlib.Core.List.{List, [], ◌∷◌, map}
use Prim.Native.Nat.{ℕ, ◌+◌, ◌*◌, ◌<◌, ◌≤◌}
use native.Mathlib.Omega.{arith}
use borrow.Author.Tests.{eqb-true, eqb-false}
use lib.Dec.{eqb}
use lib.ListN.{length, get_or, set, replicate, length-set, length-map, length-replicate, get_or-replicate}
use lib.Seq.{get_or-set_same, get_or-set_other, ext_get_or}
use Rattle.model.specs.Table.{Table}
use Rattle.model.specs.Side.{Contents, Core, Side, no_side, start_side}
use Rattle.model.specs.Wrapper.{Wrapper, all_sides, described, has_side}
use Rattle.model.specs.Load.{Composition, wrapper_of, start, start_of, ok, load}
use Rattle.model.specs.Load.{table as table_of}
use Rattle.tables.specs.Nodes as slices
use Rattle.wrappers.specs.Compositions.{composition}
use Rattle.model.proofs.Formed.Invariant.{which}
use Rattle.sides.specs.declared.Rest.{Rest}
use Rattle.sides.specs.Sides.{Nothing}
use Rattle.loading.specs.Starting.{Startable, StartIs}
use Rattle.loading.proofs.Faults.{Taken, started, table_at, side_number, map_at}
use Rattle.dispatch.specs.Sharing.{shelved_of, sides_in}
use Rattle.dispatch.proofs.AllSides.{sides_at}
use Rattle.execution.specs.declared.beginning.Standing.{Standing}
use Rattle.execution.specs.Beginning.{no_marks, BeginIs, BegunIs}

-- ONE SIDE: started where the wrapper has it, nothing else
module _ (w : Wrapper) (n : ℕ) (t : Table) (l : List ℕ) (r : Rest) where
  by_side_lem : (x : Bool) → has_side w n ≡ x → (cond x (start_side (start n t)) no_side).core ≡ (cond (has_side w n) (start_side (start n t)) no_side).core
  by_side_lem x e = ap (λ (y : Bool). (cond y (start_side (start n t)) no_side).core) (sym e)

  pub begins_started : has_side w n ≡ true → StartIs n t l r → BeginIs w n t l r
  begins_started e h = record { core = h.core ∙ by_side_lem true e; arrays = h.arrays; long = h.long }

  pub begins_empty : has_side w n ≡ false → Nothing r → length l ≡ 5184 → BeginIs w n t l r
  begins_empty e h long = record { core = h.core l ∙ by_side_lem false e; arrays = h.fits l; long = long }

-- the side at place k, with its slices among those of all sides, each read by `now`
module _ {A : Type 0} (now : A → List ℕ) (w : ℕ) (ns ps : List A) (k n : ℕ) (same : n ≡ k + 1) (a : k < length ns) (c : k < length ps) (u v : A) where
  abbrev b : Composition
  b = composition w (map now ns) (map now ps)

  abbrev t : Table
  t = slices.table (now (get_or ns k u)) (now (get_or ps k v))

  table_is : table_of b (k + 1) ≡ t
  table_is =
      table_at w (map now ns) (map now ps) k (omega (arith, a, length-map ns now)) (omega (arith, c, length-map ps now)) ∙
      sym (ap₂ slices.table (map_at now ns k u [] a) (map_at now ps k v [] c))

  pub can_begin : Taken b → has_side (described w) n ≡ true → Startable n t
  can_begin h has = subst (λ (x : Table). Startable n x) (ap (table_of b) same ∙ table_is) (h.sides n (which w n has) has)

  pub begins_at : (l : List ℕ) (r : Rest) → BeginIs (described w) n t l r → BeginIs (wrapper_of b) (k + 1) (table_of b (k + 1)) l r
  begins_at l r h =
      subst (λ (m : ℕ). BeginIs (wrapper_of b) m (table_of b (k + 1)) l r) same (subst (λ (x : Table). BeginIs (described w) n x l r) (sym table_is) h)

-- the words that are lent first
abbrev zeros : List ℕ
zeros = replicate 5184 0

pub zeros_long : (k : ℕ) → k < length all_sides → length (get_or (replicate (length all_sides) zeros) k []) ≡ 5184
zeros_long k h = ap length (get_or-replicate (length all_sides) k zeros [] h) ∙ length-replicate {A = ℕ} 5184 0

-- THE FIRST k SIDES have begun
pub record Begins (b : Composition) (k : ℕ) (ls : List (List ℕ)) (os : List Rest) (hs : List ℕ) : Type 0 where
  pub words : length ls ≡ length all_sides
  pub rests : length os ≡ length all_sides
  pub counts : length hs ≡ length all_sides
  pub long : (j : ℕ) → j < length all_sides → length (get_or ls j []) ≡ 5184
  pub begun : (j : ℕ) (d : Rest) → j < k → BeginIs (wrapper_of b) (j + 1) (table_of b (j + 1)) (get_or ls j []) (get_or os j d)
  pub shelved : (j : ℕ) (d : Rest) → j < k → get_or hs j 0 ≡ (get_or os j d).shelved

pub begins_none : (b : Composition) (ls : List (List ℕ)) (os : List Rest) (hs : List ℕ) → length ls ≡ length all_sides → length os ≡ length all_sides → length hs ≡ length all_sides →
    ((j : ℕ) → j < length all_sides → length (get_or ls j []) ≡ 5184) → Begins b 0 ls os hs
begins_none b ls os hs x y z long = record {
  words = x;
  rests = y;
  counts = z;
  long = long;
  begun = λ j d h. absurd (omega arith);
  shelved = λ j d h. absurd (omega arith);
}

-- one more
pub begins_more : (b : Composition) (k : ℕ) (ls : List (List ℕ)) (os : List Rest) (hs : List ℕ) → Begins b k ls os hs → k < length all_sides →
    (l : List ℕ) (r : Rest) → BeginIs (wrapper_of b) (k + 1) (table_of b (k + 1)) l r → Begins b (k + 1) (set ls k l) (set os k r) (set hs k r.shelved)
begins_more b k ls os hs h lt l r is =
    record {
      words = length-set ls k l ∙ h.words;
      rests = length-set os k r ∙ h.rests;
      counts = length-set hs k r.shelved ∙ h.counts;
      long = λ j a. long_at_lem j a (eqb j k) refl;
      begun = λ j d a. begun_at j d a (eqb j k) refl;
      shelved = λ j d a. shelved_at j d a (eqb j k) refl;
    }
  where
    here : get_or (set ls k l) k [] ≡ l
    here = get_or-set_same ls k l [] (omega (arith, h.words))

    here_rest : (d : Rest) → get_or (set os k r) k d ≡ r
    here_rest d = get_or-set_same os k r d (omega (arith, h.rests))

    long_at_lem : (j : ℕ) → j < length all_sides → (t : Bool) → eqb j k ≡ t → length (get_or (set ls k l) j []) ≡ 5184
    long_at_lem j a true z = ap (λ (i : ℕ). length (get_or (set ls k l) i [])) (eqb-true j k z) ∙ ap length here ∙ is.long
    long_at_lem j a false z = ap length (get_or-set_other ls k j l [] (eqb-false j k z)) ∙ h.long j a

    earlier : (j : ℕ) → j < k + 1 → (j ≡ k → ⊥) → j < k
    earlier j a z = search (arith, a, z)

    begun_at : (j : ℕ) (d : Rest) → j < k + 1 → (t : Bool) → eqb j k ≡ t → BeginIs (wrapper_of b) (j + 1) (table_of b (j + 1)) (get_or (set ls k l) j []) (get_or (set os k r) j d)
    begun_at j d a true z =
        let at : List ℕ → Rest → Type 0 = BeginIs (wrapper_of b) (k + 1) (table_of b (k + 1)) in
        let words : at (get_or (set ls k l) k []) r = subst (λ (x : List ℕ). at x r) (sym here) is in
        let both : at (get_or (set ls k l) k []) (get_or (set os k r) k d) = subst (at (get_or (set ls k l) k [])) (sym (here_rest d)) words in
        subst (λ (i : ℕ). BeginIs (wrapper_of b) (i + 1) (table_of b (i + 1)) (get_or (set ls k l) i []) (get_or (set os k r) i d)) (sym (eqb-true j k z)) both
    begun_at j d a false z =
        let ne : j ≡ k → ⊥ = eqb-false j k z in
        let at : List ℕ → Rest → Type 0 = BeginIs (wrapper_of b) (j + 1) (table_of b (j + 1)) in
        let words = subst (λ (x : List ℕ). at x (get_or os j d)) (sym (get_or-set_other ls k j l [] ne)) (h.begun j d (earlier j a ne)) in
        subst (at (get_or (set ls k l) j [])) (sym (get_or-set_other os k j r d ne)) words

    shelved_at : (j : ℕ) (d : Rest) → j < k + 1 → (t : Bool) → eqb j k ≡ t → get_or (set hs k r.shelved) j 0 ≡ (get_or (set os k r) j d).shelved
    shelved_at j d a true z =
        let both = get_or-set_same hs k r.shelved 0 (omega (arith, h.counts)) ∙ sym (ap (λ (o : Rest). o.shelved) (here_rest d)) in
        subst (λ (i : ℕ). get_or (set hs k r.shelved) i 0 ≡ (get_or (set os k r) i d).shelved) (sym (eqb-true j k z)) both
    shelved_at j d a false z =
        let ne : j ≡ k → ⊥ = eqb-false j k z in
        get_or-set_other hs k j r.shelved 0 ne ∙ h.shelved j d (earlier j a ne) ∙ sym (ap (λ (o : Rest). o.shelved) (get_or-set_other os k j r d ne))

-- ALL SIDES: the state that load leads to
sides_length : (ls : List (List ℕ)) (os : List Rest) (ms : List (List Bool)) → length os ≡ length ls → length ms ≡ length ls → length (sides_in ls os ms) ≡ length ls
unfolding sides_in
sides_length [] os ms a b = refl
sides_length (l ∷ ls) [] ms a b = absurd (omega arith)
sides_length (l ∷ ls) (o ∷ os) [] a b = absurd (omega arith)
sides_length (l ∷ ls) (o ∷ os) (m ∷ ms) a b = let z = sides_length ls os ms (omega arith) (omega arith) in omega (arith, z)

-- no name has left a side at its start
unmarked : (x : Bool) (s : Contents) → ◌≡◌ {A = Side} (record { core = (cond x (start_side s) no_side).core; left = replicate (256 * length all_sides) false }) (cond x (start_side s) no_side)
unmarked true s = refl
unmarked false s = refl

same_side_lem : {c e : Core} {p q : List Bool} → c ≡ e → p ≡ q → ◌≡◌ {A = Side} (record { core = c; left = p }) (record { core = e; left = q })
same_side_lem p q = rw (p, q)

module _ (b : Composition) (k : ℕ) (ls : List (List ℕ)) (r : Standing) (h : Begins b k ls r.rests r.shelved) (all : length all_sides ≤ k) (d : Rest) where
  side_at : (j : ℕ) → j < length all_sides → get_or (sides_in ls r.rests no_marks) j no_side ≡ get_or (map (start_of b) all_sides) j no_side
  side_at j a =
      sides_at d ls r.rests no_marks j (omega (arith, h.words)) (omega (arith, h.rests)) a ∙
      same_side_lem (h.begun j d (omega arith)).core (get_or-replicate (length all_sides) j (replicate (256 * length all_sides) false) [] a) ∙
      unmarked (has_side (wrapper_of b) (j + 1)) (start (j + 1) (table_of b (j + 1))) ∙
      ap (start_of b) (sym (side_number j a)) ∙ map_at (start_of b) all_sides j 0 no_side a

  same_sides : sides_in ls r.rests no_marks ≡ map (start_of b) all_sides
  same_sides =
      let many = sides_length ls r.rests no_marks (h.rests ∙ sym h.words) (sym h.words) ∙ h.words in
      ext_get_or no_side (sides_in ls r.rests no_marks) (map (start_of b) all_sides) many (λ j a. side_at j (omega (arith, many)))

  same_shelved : r.shelved ≡ shelved_of r.rests
  same_shelved =
      ext_get_or 0 r.shelved (shelved_of r.rests) (h.counts ∙ sym (length-map r.rests (λ (o : Rest). o.shelved) ∙ h.rests))
      (λ j a. h.shelved j d (omega (arith, h.counts)) ∙ map_at (λ (o : Rest). o.shelved) r.rests j d 0 (omega (arith, h.counts, h.rests)))

  pub begun_all : load b ≡ started b → BegunIs b ls r
  begun_all e = record {
    lent = record {
      words = h.words;
      rests = h.rests;
      marks = refl;
      long = h.long;
      fits = λ j q a. (h.begun j q (omega arith)).arrays;
    };
    loads = e ∙ ap (λ (l : List Side). ok (record { sides = l })) (sym same_sides);
    shelved = same_shelved;
  }
