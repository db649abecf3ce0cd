-- What load says of a side, and of all sides one after another.
use mathlib.Core.Path.{◌≡◌, refl, sym, ap, ap₂, subst, ◌∙◌}
use mathlib.Core.Logic.{⊎_elim}
use mathlib.Core.Bool.{Bool, true, false, false≢true}
use mathlib.Core.List.{List, [], ◌∷◌, map}
use mathlib.Core.Option.{none, some}
use Prim.Native.Nat.{ℕ, zero, suc, ◌+◌, ◌<◌, ◌≤◌}
use native.Mathlib.Numerals.{add-one}
use native.Mathlib.Omega.{arith}
use borrow.Author.Tests.{eqb-true}
use lib.Dec.{eqb, leb}
use lib.ListN.{length, drop, get_or}
use Rattle.model.specs.Basics.{◌&◌, choose, Res, refuse, done, is_done, has}
use Rattle.model.specs.Values.{no_names}
use Rattle.model.specs.Table.{Table, count, term}
use Rattle.model.specs.Checks.{Fault, fault}
use Rattle.model.specs.Side.{within_limits, empty_contents}
use Rattle.model.specs.Wrapper.{Wrapper, all_sides, is_wrapper, described, has_side}
use Rattle.model.specs.Load.{Composition, wrapper_of, no_table, start, Loaded, refused, ok, is_ok, side_fault, lack_fault, load_sides, start_of, load}
use Rattle.model.specs.Load.{table as table_of}
use Rattle.model.proofs.Basics.Tests.{both, or_cases, some_inj}
use Rattle.model.proofs.Formed.Counts.{Added, unfolds_adds}
use Rattle.std.proofs.Common.{Result, Ok as fine, Err}
use Rattle.tables.specs.declared.checks.Cause.TheVariants as cause
use Rattle.tables.specs.declared.checks.Fault.{Fault as Found}
use Rattle.tables.specs.Checks.{Passes, fault_of}
use Rattle.tables.specs.Nodes as slices
use Rattle.scopes.specs.declared.unfolded.Unfolded.{Unfolded}
use Rattle.scopes.specs.Unfolded.{UnfoldsTo}
use Rattle.scopes.proofs.ScopeBound.{no_fault, passes_checked}
use Rattle.wrappers.specs.Compositions.{tables_of, composition}
use Rattle.loading.specs.declared.LoadRefusal.{LoadRefusal}
use Rattle.loading.specs.Starting.{Startable}
use Rattle.loading.specs.Loading.{fault_at, told_by, refusal_of, refusal_in}

-- A SIDE'S FAULT
pub root_in : (t : Table) → Passes t → 0 < count t
root_in t p = (passes_checked t p).some

pub start_added : (i : ℕ) (t : Table) → Added (term t 0) empty_contents (start i t)
unfolding start
start_added i t = unfolds_adds i (term t 0) no_names 0 empty_contents

pub start_within : (i : ℕ) (t : Table) (u : Unfolded) → UnfoldsTo (term t 0) u → within_limits (start i t) ≡ leb u.particles 32 & (leb (u.boxes + 1) 16 & leb u.names 256)
start_within i t u h =
    let d = start_added i t in
    let p : length (start i t).particles ≡ u.particles = omega (arith, d.particles, h.particles) in
    let q : length (start i t).boxes ≡ u.boxes + 1 = omega (arith, d.boxes, h.boxes) in
    let r : (start i t).minted ≡ u.names = omega (arith, d.minted, h.names) in
    ap₂ ◌&◌ (ap (λ (n : ℕ). leb n 32) p) (ap₂ ◌&◌ (ap (λ (n : ℕ). leb n 16) q) (ap (λ (n : ℕ). leb n 256) r))

-- a fault of checks 1 to 6 stays
pub side_bad : (i : ℕ) (t : Table) (v : Result Unit Found) (f : Found) → fault_of v ≡ fault t → v ≡ Err f → fault_of (Err f) ≡ side_fault i t
unfolding side_fault
side_bad i t v f e z = let p : fault t ≡ fault_of (Err f) = sym e ∙ ap fault_of z in rw (p, side_fault)

-- with no such fault, 7 is by the counts
module _ (i : ℕ) (t : Table) (p : Passes t) where
  pub side_good : within_limits (start i t) ≡ true → fault_of (fine tt) ≡ side_fault i t
  unfolding side_fault
  side_good w = let z = no_fault t p in rw (z.1, w, side_fault)

  pub side_seven : within_limits (start i t) ≡ false → fault_of (Err (record { cause = cause.Limit; node = 0 })) ≡ side_fault i t
  unfolding side_fault
  side_seven w = let z = no_fault t p in rw (z.1, w, side_fault)

-- what a side that passes is
pub side_passed : (i : ℕ) (t : Table) → is_done (side_fault i t) ≡ false → Passes t × (within_limits (start i t) ≡ true)
unfolding side_fault
side_passed i t z = go (fault t) refl (within_limits (start i t)) refl
  where
    go : (q : Res Fault) → fault t ≡ q → (b : Bool) → within_limits (start i t) ≡ b → Passes t × (within_limits (start i t) ≡ true)
    go (done f) p b w = let y : is_done (side_fault i t) ≡ true = rw (p, side_fault) in absurd (false≢true (sym z ∙ y))
    go (refuse x) p true w = (ap is_done p, w)
    go (refuse x) p false w = let y : is_done (side_fault i t) ≡ true = rw (p, w, side_fault) in absurd (false≢true (sym z ∙ y))

-- a side that the wrapper lacks
module _ (t : Table) where
  lack_by : (q : Bool) → eqb (length t.nodes) 0 & eqb (length t.pool) 0 ≡ q → lack_fault t ≡ choose q (refuse 0) (done (record { number = 1; node = 0 }))
  unfolding lack_fault
  lack_by q e = ap (λ (x : Bool). choose x (refuse 0) (done (record { number = 1; node = 0 }))) e

  pub lack_none : eqb (length t.nodes) 0 ≡ true → eqb (length t.pool) 0 ≡ true → fault_of (fine tt) ≡ lack_fault t
  unfolding choose
  lack_none a b = sym (lack_by true (both _ _ a b))

  pub lack_nodes : eqb (length t.nodes) 0 ≡ false → fault_of (Err (record { cause = cause.Size; node = 0 })) ≡ lack_fault t
  unfolding choose ◌&◌
  lack_nodes a = sym (lack_by false (rw a))

  pub lack_pool : eqb (length t.nodes) 0 ≡ true → eqb (length t.pool) 0 ≡ false → fault_of (Err (record { cause = cause.Size; node = 0 })) ≡ lack_fault t
  unfolding choose ◌&◌
  lack_pool a b = sym (lack_by false (rw (a, b)))

module _ (w : Wrapper) (n : ℕ) (t : Table) where
  pub fault_has : has_side w n ≡ true → fault_at w n t ≡ side_fault n t
  unfolding choose
  fault_has e = rw e

  pub fault_lacks : has_side w n ≡ false → fault_at w n t ≡ lack_fault t
  unfolding choose
  fault_lacks e = rw e

-- SIDE BY SIDE: a side's fault, or what follows
abbrev walk : Res Fault → ℕ → Loaded → Loaded
walk (done f) i k = refused (record { number = f.number; side = i; node = f.node })
walk (refuse x) i k = k

walk_bad : (q : Res Fault) (i : ℕ) (k : Loaded) (v : Result Unit Found) (f : Found) → fault_of v ≡ q → v ≡ Err f → refusal_of (Err (record { cause = f.cause; side = i; node = f.node })) ≡ refusal_in (walk q i k)
walk_bad q i k v f e z = ap (λ (r : Res Fault). refusal_in (walk r i k)) (sym (ap fault_of z) ∙ e)

walk_good : (q : Res Fault) (i : ℕ) (k : Loaded) (v : Result Unit Found) (u : Unit) → fault_of v ≡ q → v ≡ fine u → walk q i k ≡ k
walk_good q i k v u e z = sym (ap (λ (r : Res Fault). walk r i k) (sym (ap fault_of z) ∙ e))

walk_ok : (q : Res Fault) (i : ℕ) (k : Loaded) → is_ok (walk q i k) ≡ true → (is_done q ≡ false) × (walk q i k ≡ k)
walk_ok (done f) i k e = absurd (false≢true e)
walk_ok (refuse x) i k e = (refl, refl)

load_next : (b : Composition) (n : ℕ) (ns : List ℕ) (k : Loaded) → load_sides b (n ∷ ns) k ≡ walk (fault_at (wrapper_of b) n (table_of b n)) n (load_sides b ns k)
unfolding load_sides
load_next b n ns k = go (fault_at (wrapper_of b) n (table_of b n)) refl
  where
    go : (q : Res Fault) → fault_at (wrapper_of b) n (table_of b n) ≡ q → load_sides b (n ∷ ns) k ≡ walk (fault_at (wrapper_of b) n (table_of b n)) n (load_sides b ns k)
    go (done f) p = rw (p, load_sides)
    go (refuse x) p = rw (p, load_sides)

-- the sides by their places
pub side_number : (k : ℕ) → k < length all_sides → get_or all_sides k 0 ≡ k + 1
side_number zero h = refl
side_number (suc zero) h = refl
side_number (suc (suc k)) h = absurd (omega arith)

rest_from : (l : List ℕ) (k : ℕ) → k < length l → drop k l ≡ get_or l k 0 ∷ drop (k + 1) l
rest_from [] k h = absurd (omega arith)
rest_from (x ∷ l) zero h = refl
rest_from (x ∷ l) (suc k) h = rest_from l k (omega arith) ∙ ap (λ (j : ℕ). get_or l k 0 ∷ drop j (x ∷ l)) (shift k)
  where
    shift : (k : ℕ) → suc (k + 1) ≡ suc k + 1
    shift k = omega arith

-- the table of the side at place k
table_in : (ns ps : List (List ℕ)) (k : ℕ) → k < length ns → k < length ps → get_or (tables_of ns ps) k no_table ≡ slices.table (get_or ns k []) (get_or ps k [])
unfolding tables_of
table_in [] ps k h m = absurd (omega arith)
table_in (n ∷ ns) [] k h m = absurd (omega arith)
table_in (n ∷ ns) (p ∷ ps) zero h m = refl
table_in (n ∷ ns) (p ∷ ps) (suc k) h m = table_in ns ps k (omega arith) (omega arith)

pub table_at : (w : ℕ) (ns ps : List (List ℕ)) (k : ℕ) → k < length ns → k < length ps → table_of (composition w ns ps) (k + 1) ≡ slices.table (get_or ns k []) (get_or ps k [])
table_at w ns ps k h m = ap (table_of (composition w ns ps)) (add-one k) ∙ table_in ns ps k h m

-- an element of a list of references, as its words
pub map_at : {A B : Type 0} (f : A → B) (l : List A) (k : ℕ) (d : A) (e : B) → k < length l → f (get_or l k d) ≡ get_or (map f l) k e
map_at f [] k d e h = absurd (omega arith)
map_at f (x ∷ l) zero d e h = refl
map_at f (x ∷ l) (suc k) d e h = map_at f l k d e (omega arith)

-- what load comes to where no side has a fault
abbrev pub started : Composition → Loaded
started b = ok (record { sides = map (start_of b) all_sides })

load_none : (b : Composition) → is_wrapper b.wrapper ≡ false → load b ≡ refused (record { number = 1; side = 0; node = 0 })
unfolding load
load_none b e = rw (e, load)

pub load_unknown : (b : Composition) → is_wrapper b.wrapper ≡ false → refusal_of (Err (record { cause = cause.Size; side = 0; node = 0 })) ≡ refusal_in (load b)
load_unknown b e = sym (ap refusal_in (load_none b e))

pub load_known : (b : Composition) → is_wrapper b.wrapper ≡ true → load b ≡ load_sides b all_sides (started b)
unfolding load
load_known b e = rw (e, load)

-- load comes to what the sides from place k on come to
abbrev pub FromPlace : Composition → ℕ → Type 0
FromPlace b k = load b ≡ load_sides b (drop k all_sides) (started b)

-- the fault of the side at place k, by the slices that are lent
pub fault_lent : {A : Type 0} (f : A → List ℕ) (w : ℕ) (ts us : List A) (k n : ℕ) (d e : A) → k < length ts → k < length us → n ≡ k + 1 →
    fault_at (described w) n (slices.table (f (get_or ts k d)) (f (get_or us k e))) ≡ fault_at (described w) (k + 1) (slices.table (get_or (map f ts) k []) (get_or (map f us) k []))
fault_lent f w ts us k n d e a b same =
    ap₂ (λ (y z : List ℕ). fault_at (described w) n (slices.table y z)) (map_at f ts k d [] a) (map_at f us k e [] b)
    ∙ ap (λ (m : ℕ). fault_at (described w) m (slices.table (get_or (map f ts) k []) (get_or (map f us) k []))) same

-- A TURN: the sides from place k on
module _ (w : ℕ) (ns ps : List (List ℕ)) (k : ℕ) (a : k < length ns) (c : k < length ps) (h : k < length all_sides) (v : Result Unit Found)
    (e : fault_of v ≡ fault_at (wrapper_of (composition w ns ps)) (k + 1) (slices.table (get_or ns k []) (get_or ps k []))) where
  abbrev b : Composition
  b = composition w ns ps

  abbrev f : Res Fault
  f = fault_at (wrapper_of b) (k + 1) (table_of b (k + 1))

  here : load_sides b (drop k all_sides) (started b) ≡ walk f (k + 1) (load_sides b (drop (k + 1) all_sides) (started b))
  here =
      ap (λ (l : List ℕ). load_sides b l (started b)) (rest_from all_sides k h ∙ ap (λ (n : ℕ). n ∷ drop (k + 1) all_sides) (side_number k h)) ∙
      load_next b (k + 1) (drop (k + 1) all_sides) (started b)

  is : fault_of v ≡ f
  is = e ∙ ap (fault_at (wrapper_of b) (k + 1)) (sym (table_at w ns ps k a c))

  pub turn_good : (u : Unit) → v ≡ fine u → FromPlace b k → FromPlace b (k + 1)
  turn_good u z p = p ∙ here ∙ walk_good f (k + 1) _ v u is z

  pub turn_bad : (x : Found) → v ≡ Err x → FromPlace b k → refusal_of (Err (record { cause = x.cause; side = k + 1; node = x.node })) ≡ refusal_in (load b)
  turn_bad x z p = walk_bad f (k + 1) (load_sides b (drop (k + 1) all_sides) (started b)) v x is z ∙ ap refusal_in (sym (p ∙ here))

drop_all : (l : List ℕ) (k : ℕ) → length l ≤ k → drop k l ≡ []
drop_all [] zero h = refl
drop_all [] (suc k) h = refl
drop_all (x ∷ l) zero h = absurd (omega arith)
drop_all (x ∷ l) (suc k) h = drop_all l k (omega arith)

pub turns_end : (b : Composition) (k : ℕ) → length all_sides ≤ k → FromPlace b k → refusal_of (fine tt) ≡ refusal_in (load b)
unfolding load_sides
turns_end b k h p = sym (ap refusal_in (p ∙ ap (λ (l : List ℕ). load_sides b l (started b)) (drop_all all_sides k h)))

-- WHERE LOAD REFUSES NOTHING, no side has a fault
ok_sides : (b : Composition) (ns : List ℕ) (k : Loaded) → is_ok (load_sides b ns k) ≡ true →
    (load_sides b ns k ≡ k) × ((n : ℕ) → has n ns ≡ true → is_done (fault_at (wrapper_of b) n (table_of b n)) ≡ false)
unfolding load_sides
ok_sides b [] k e = (refl, λ n h. absurd (false≢true h))
ok_sides b (m ∷ ns) k e =
    let f : Res Fault = fault_at (wrapper_of b) m (table_of b m) in
    let p : load_sides b (m ∷ ns) k ≡ walk f m (load_sides b ns k) = load_next b m ns k in
    let a = walk_ok f m (load_sides b ns k) (ap is_ok (sym p) ∙ e) in
    let r = ok_sides b ns k (ap is_ok (sym (p ∙ a.1)) ∙ e) in (
      p ∙ a.1 ∙ r.0,
      λ n h. ⊎_elim (λ q. subst (λ (j : ℕ). is_done (fault_at (wrapper_of b) j (table_of b j)) ≡ false) (sym (eqb-true n m q)) a.0) (r.1 n) (or_cases (eqb n m) (has n ns) h),
    )

-- what load takes: a known wrapper, and every side that it has passes
pub record Taken (b : Composition) : Type 0 where
  pub wrapper : is_wrapper b.wrapper ≡ true
  pub loaded : load b ≡ started b
  pub sides : (n : ℕ) → has n all_sides ≡ true → has_side (wrapper_of b) n ≡ true → Startable n (table_of b n)

pub ok_taken : (b : Composition) → is_ok (load b) ≡ true → Taken b
ok_taken b e = by (is_wrapper b.wrapper) refl
  where
    by : (x : Bool) → is_wrapper b.wrapper ≡ x → Taken b
    by true w =
        let r = ok_sides b all_sides (started b) (ap is_ok (sym (load_known b w)) ∙ e) in
        record {
          wrapper = w;
          loaded = load_known b w ∙ r.0;
          sides = λ n h i.
              let p = side_passed n (table_of b n) (ap is_done (sym (fault_has (wrapper_of b) n (table_of b n) i)) ∙ r.1 n h) in
              record { side = h; passes = p.0; few = p.1 };
        }
    by false w = absurd (false≢true (sym (ap is_ok (load_none b w)) ∙ e))

-- WHAT LOAD'S ANSWER SAYS of a load
pub ok_loads : (l : Loaded) (a : Result Unit LoadRefusal) (u : Unit) → refusal_of a ≡ refusal_in l → a ≡ fine u → is_ok l ≡ true
ok_loads (refused x) a u e z =
    let y : none ≡ some x = sym (ap refusal_of z) ∙ e in
    let m : ◌≡◌ {A = ℕ} 0 1 = cc in
    absurd (omega arith)
ok_loads (ok s) a u e z = refl

pub refused_loads : (l : Loaded) (a : Result Unit LoadRefusal) (f : LoadRefusal) → refusal_of a ≡ refusal_in l → a ≡ Err f → l ≡ refused (told_by f)
refused_loads (refused x) a f e z = ap refused (some_inj (sym e ∙ ap refusal_of z))
refused_loads (ok s) a f e z =
    let y : refusal_of (Err f) ≡ none = sym (ap refusal_of z) ∙ e in
    let w : ◌≡◌ {A = ℕ} 0 1 = cc in
    absurd (omega arith)
