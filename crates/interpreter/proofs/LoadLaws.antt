-- What load answers, path by path.
use mathlib.Core.Path.{◌≡◌, refl, sym, ap, ap₂, subst, ◌∙◌}
use mathlib.Core.Bool.{Bool, true, false, cond}
use mathlib.Core.List.{List, [], ◌∷◌, ◌++◌, map, map-append}
use mathlib.Core.Option.{some}
use Prim.Native.Nat.{ℕ, zero, suc, ◌+◌, ◌*◌, ◌<◌, ◌≤◌}
use native.Mathlib.Numerals.{add-one}
use native.Mathlib.Omega.{arith}
use lib.ListN.{length, take, get_or, set, replicate, length-set, length-map}
use lib.Seq.{take-suc, take_all}
use Rattle.model.specs.Basics.{every, has}
use Rattle.model.specs.Table.{Table}
use Rattle.model.specs.Side.{Core, start_side, no_side}
use Rattle.model.specs.Side.{Side as MSide, State as MState}
use Rattle.model.specs.Wrapper.{all_sides, has_side}
use Rattle.model.specs.Load.{Composition, wrapper_of, start, start_of, Loaded, ok, load}
use Rattle.model.proofs.Basics.Tests.{both}
use Rattle.sides.proofs.Lists.{view_push, every_push}
use Rattle.tables.specs.Nodes as slices
use Rattle.wrappers.specs.Compositions.{composition}
use Rattle.sides.specs.declared.Rest.{Rest}
use Rattle.sides.specs.declared.Side.{Side}
use Rattle.sides.specs.declared.State.{State}
use Rattle.sides.specs.Sides.{SideIs, fits_side, view_side, view_state, fits_arrays, state_of}
use Rattle.std.specs.Prelude.{Ok, Err}
use Rattle.std.specs.declared.result.Result.{Result}
use Rattle.loading.specs.declared.LoadRefusal.{LoadRefusal}
use Rattle.loading.specs.Loading.{refusal_of, refusal_in}
use Rattle.loading.specs.Starting.{Startable, StartIs}
use Rattle.loading.proofs.Faults.{ok_taken, ok_loads, refused_loads, table_at, side_number, map_at}
use Rattle.interpreter.specs.Loaded.{StateIs, AllStartable, loaded_by, state_loaded, LoadIs}

-- a side by its core and its marks
same_side_lem : {a b : Core} {x y : List Bool} → a ≡ b → x ≡ y → ◌≡◌ {A = MSide} (record { core = a; left = x }) (record { core = b; left = y })
same_side_lem p q = rw (p, q)

pub start_there : (n : ℕ) (t : Table) (o : Rest) (w : List ℕ) (m : List Bool) → StartIs n t w o → m ≡ replicate (256 * length all_sides) false → SideIs (start_side (start n t)) (record { words = w; rest = o; left = m })
start_there n t o w m h e = record { view = same_side_lem h.core e; fits = h.arrays }

-- the same side everywhere
pub all_nothing : (o : Side) → SideIs no_side o → StateIs (record { sides = map (λ n. no_side) all_sides }) (record { sides = replicate (length all_sides) o })
all_nothing o h = record { view = ap (λ (x : MSide). record { sides = x ∷ x ∷ [] }) h.view; fits = both _ _ h.fits (both _ _ h.fits refl) }

-- SIDES AT THEIR START, one after another: the first k of them
pub record Begun (b : Composition) (k : ℕ) (l : List Side) : Type 0 where
  pub few : k ≤ length all_sides
  pub size : length l ≡ length all_sides
  pub view : map view_side (take k l) ≡ map (start_of b) (take k all_sides)
  pub fits : every (λ o. fits_side o.words o.rest) (take k l) ≡ true

pub begin : (b : Composition) (l : List Side) → length l ≡ length all_sides → Begun b 0 l
begin b l h = record { few = omega arith; size = h; view = refl; fits = refl }

-- side k + 1 of the composition, by what is lent
turn_side : (w : ℕ) (ns ps : List (List ℕ)) (k n : ℕ) → length ns ≡ length all_sides → length ps ≡ length all_sides → k < length all_sides → n ≡ k + 1 →
    start_of (composition w ns ps) (k + 1) ≡ cond (has_side (wrapper_of (composition w ns ps)) n) (start_side (start n (slices.table (get_or ns k []) (get_or ps k [])))) no_side
turn_side w ns ps k n a c h e =
    ap (λ (t : Table). cond (has_side (wrapper_of (composition w ns ps)) (k + 1)) (start_side (start (k + 1) t)) no_side) (table_at w ns ps k (omega arith) (omega arith)) ∙
    ap (λ (m : ℕ). cond (has_side (wrapper_of (composition w ns ps)) m) (start_side (start m (slices.table (get_or ns k []) (get_or ps k [])))) no_side) (sym e)

has_number : (k : ℕ) → k < length all_sides → has (k + 1) all_sides ≡ true
has_number zero h = refl
has_number (suc zero) h = refl
has_number (suc (suc k)) h = absurd (omega arith)

turn_startable : (w : ℕ) (ns ps : List (List ℕ)) (k n : ℕ) → length ns ≡ length all_sides → length ps ≡ length all_sides → k < length all_sides → n ≡ k + 1 → AllStartable (composition w ns ps) →
    has_side (wrapper_of (composition w ns ps)) n ≡ true → Startable n (slices.table (get_or ns k []) (get_or ps k []))
turn_startable w ns ps k n a c h e all i =
    let b : Composition = composition w ns ps in
    let s = all.sides (k + 1) (has_number k h) (ap (has_side (wrapper_of b)) (sym e) ∙ i) in
    let t = table_at w ns ps k (omega arith) (omega arith) in
    rw e (rw t at s)

-- the same of lent slices
module _ {A : Type 0} (f : A → List ℕ) (w : ℕ) (ts us : List A) (k n : ℕ) (d e : A) (a : length ts ≡ length all_sides) (c : length us ≡ length all_sides) (h : k < length all_sides) (same : n ≡ k + 1) where
  abbrev lent : Composition
  lent = composition w (map f ts) (map f us)

  table_lent : slices.table (f (get_or ts k d)) (f (get_or us k e)) ≡ slices.table (get_or (map f ts) k []) (get_or (map f us) k [])
  table_lent = ap₂ slices.table (map_at f ts k d [] (omega arith)) (map_at f us k e [] (omega arith))

  pub lent_startable : AllStartable lent → has_side (wrapper_of lent) n ≡ true → Startable n (slices.table (f (get_or ts k d)) (f (get_or us k e)))
  lent_startable all i =
      subst (Startable n) (sym table_lent) (turn_startable w (map f ts) (map f us) k n (length-map ts f ∙ a) (length-map us f ∙ c) h same all i)

  pub lent_side : (r : Side) → SideIs (cond (has_side (wrapper_of lent) n) (start_side (start n (slices.table (f (get_or ts k d)) (f (get_or us k e))))) no_side) r → SideIs (start_of lent (k + 1)) r
  lent_side r i =
      subst (λ (x : MSide). SideIs x r) (sym (turn_side w (map f ts) (map f us) k n (length-map ts f ∙ a) (length-map us f ∙ c) h same))
      (subst (λ (t : Table). SideIs (cond (has_side (wrapper_of lent) n) (start_side (start n t)) no_side) r) table_lent i)

pub turn : (b : Composition) (k : ℕ) (l : List Side) (o : Side) → k < length all_sides → Begun b k l → SideIs (start_of b (k + 1)) o → Begun b (k + 1) (set l k o)
turn b k l o h g s =
    let more : map (start_of b) (take (k + 1) all_sides) ≡ map (start_of b) (take k all_sides) ++ (start_of b (k + 1) ∷ []) =
    ap (λ (n : ℕ). map (start_of b) (take n all_sides)) (add-one k) ∙ ap (map (start_of b)) (take-suc all_sides k 0 h) ∙ map-append (start_of b) (take k all_sides) (get_or all_sides k 0 ∷ []) ∙
    ap (λ (n : ℕ). map (start_of b) (take k all_sides) ++ (start_of b n ∷ [])) (side_number k h) in
    record {
      few = omega arith;
      size = length-set l k o ∙ g.size;
      view = view_push view_side l k o (omega (arith, g.size)) ∙ ap (λ (x : List MSide). x ++ (view_side o ∷ [])) g.view ∙ ap (λ (x : MSide). map (start_of b) (take k all_sides) ++ (x ∷ [])) s.view ∙ sym more;
      fits = every_push (λ (x : Side). fits_side x.words x.rest) l k o (omega (arith, g.size)) g.fits s.fits;
    }

pub turns_done : (b : Composition) (k : ℕ) (l : List Side) → length all_sides ≤ k → Begun b k l → StateIs (record { sides = map (start_of b) all_sides }) (record { sides = l })
turns_done b k l h g =
    let all = take_all k l (omega (arith, g.size)) in
    record {
      view = ap (λ (x : List MSide). record { sides = x }) (sym (ap (map view_side) all) ∙ g.view ∙ ap (map (start_of b)) (take_all k all_sides h));
      fits = sym (ap (every (λ (x : Side). fits_side x.words x.rest)) all) ∙ g.fits;
    }

-- WHAT LOAD ANSWERS
state_some : (r : State) → fits_arrays r ≡ true → state_of r ≡ some (view_state r)
state_some r e = rw e

module _ (l : Loaded) (a : Result Unit LoadRefusal) (s : State) (e : refusal_of a ≡ refusal_in l) where
  -- by what the outcome is
  answer_by_lem : (o : Result Unit LoadRefusal) → a ≡ o → loaded_by (refusal_of a) (view_state s) ≡ loaded_by (refusal_of o) (view_state s)
  answer_by_lem o z = ap (λ (y : Result Unit LoadRefusal). loaded_by (refusal_of y) (view_state s)) z

  pub load_refused : (f : LoadRefusal) → a ≡ Err f → StateIs (record { sides = map (λ n. no_side) all_sides }) s → LoadIs l (record { outcome = a; state = s })
  load_refused f z h =
      let q = refused_loads l a f e z in
      record { answer = answer_by_lem (Err f) z ∙ sym q; state = state_some s h.fits ∙ ap some (h.view ∙ sym (ap state_loaded q)) }

  load_ok : (t : MState) (u : Unit) → a ≡ Ok u → l ≡ ok t → StateIs t s → LoadIs l (record { outcome = a; state = s })
  load_ok t u z q h = record { answer = answer_by_lem (Ok u) z ∙ ap ok h.view ∙ sym q; state = state_some s h.fits ∙ ap some (h.view ∙ sym (ap state_loaded q)) }

module _ (b : Composition) (a : Result Unit LoadRefusal) (e : refusal_of a ≡ refusal_in (load b)) (u : Unit) (z : a ≡ Ok u) where
  pub load_done : (s : State) → StateIs (record { sides = map (start_of b) all_sides }) s → LoadIs (load b) (record { outcome = a; state = s })
  load_done s h = load_ok (load b) a s e (record { sides = map (start_of b) all_sides }) u z (ok_taken b (ok_loads (load b) a u e z)).loaded h

  pub all_startable : AllStartable b
  all_startable = record { sides = (ok_taken b (ok_loads (load b) a u e z)).sides }
