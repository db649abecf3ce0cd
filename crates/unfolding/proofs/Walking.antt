-- The walk at a node, by the node's kind: what its child is given, and what the node's own term unfolds to.
use mathlib.Core.Path.{◌≡◌, refl, sym, ap, ap₂, ◌∙◌, subst}
use mathlib.Core.Bool.{true, false}
use mathlib.Core.List.{List, [], ◌∷◌, map}
use Prim.Native.Nat.{ℕ, suc, ◌+◌, ◌-◌, ◌*◌, ◌<◌, ◌≤◌}
use native.Mathlib.Omega.{arith}
use borrow.Author.Tests.{ltb-false}
use lib.Dec.{leb}
use lib.ListN.{length, take, drop, length-map, length-take}
use lib.Seq.{take-take, drop-drop}
use Rattle.model.specs.Basics.{◌&◌, every}
use Rattle.model.specs.Values.{Env, word, extend, substitute}
use Rattle.model.specs.Table.{Table, count, field, Term, par, box, new, build, term}
use Rattle.model.specs.Side.{Particle, Box, input, Contents}
use Rattle.model.specs.Unfolding.{particles_in, boxes_in, new_names_in, add_particle, add_box, unfolds}
use Rattle.model.proofs.Causes.CauseTools.{neither}
use Rattle.model.proofs.Basics.Environments.{Sized}
use Rattle.values.proofs.Environments.{env}
use Rattle.tables.specs.declared.nodes.Node.{Node}
use Rattle.tables.specs.Nodes.{table, NodeIs}
use Rattle.tables.specs.Scope.{Walks}
use Rattle.tables.proofs.WalkLaws.{at_kind, on_left, on_right, on_box, on_new}
use Rattle.sides.specs.Layout.{parts, rows_of, places_of, view_row, fits_row, view_box, view_place, fits_place, view_boxes, fits_rows}
use Rattle.sides.specs.Stored.{box_put}
use Rattle.sides.specs.Environments.{env_of, bound}
use Rattle.sides.proofs.Reading.{places_count}
use Rattle.sides.proofs.Behind.{box_rows_lem, box_shelf, box_view, boxes_held}
use Rattle.sides.proofs.Binding.{bound_length, names_kept, places_kept, env_bound, fits_bound}
use Rattle.sides.proofs.Storing.{box_length}
use Rattle.environments.specs.Long.{long_in}
use Rattle.unfolding.specs.declared.Counts.{Counts}
use Rattle.unfolding.specs.Unfolded.{one_box, one_name, counted, value_at, output_at, RowFree, ParticleAdded, CanUnfold, UnfoldedIs}
use Rattle.unfolding.proofs.LongLaws.{long_new}
use Rattle.unfolding.proofs.Standing.{walks, few, nodes_few, scoped_left, scoped_right, scoped_box, scoped_new, new_room}

abbrev contents : List Particle → List Box → ℕ → Contents
contents ps bs k = record { particles = ps; boxes = bs; minted = k }

-- what equal terms add is as much, and equal counts count as much
sizes : {a b : Term} → a ≡ b → (particles_in a ≡ particles_in b) × (boxes_in a ≡ boxes_in b) × (new_names_in a ≡ new_names_in b)
sizes q = (ap particles_in q, ap boxes_in q, ap new_names_in q)

numbers : {a b : Counts} → a ≡ b → (a.particles ≡ b.particles) × (a.boxes ≡ b.boxes) × (a.minted ≡ b.minted)
numbers q = (ap (λ (y : Counts). y.particles) q, ap (λ (y : Counts). y.boxes) q, ap (λ (y : Counts). y.minted) q)

-- AN ENVIRONMENT is the same where its names and its places are
env_same : (e f : List ℕ) (d : ℕ) → take d f ≡ take d e → take d (places_of f) ≡ take d (places_of e) → env_of f d ≡ env_of e d
env_same e f d h k = ap₂ (λ (x : List ℕ) (y : List (List ℕ)). env x (map view_place y)) h k

-- it has as many values as names
sized : (e : List ℕ) (d : ℕ) → length e ≡ 144 → d ≤ 8 → Sized (env_of e d)
sized e d h k = omega (arith, length-map (take d (places_of e)) view_place, length-take d (places_of e), places_count e, length-take d e)

-- from x to y its first d stay, from y to z one more: from x to z the first d stay
kept_before : {A : Type 0} (d : ℕ) (x y z : List A) → take (d + 1) z ≡ take (d + 1) y → take d y ≡ take d x → take d z ≡ take d x
kept_before d x y z h k = sym (take-take d (d + 1) z (omega arith)) ∙ ap (take d) h ∙ take-take d (d + 1) y (omega arith) ∙ k

module _ {ns pool : List ℕ} {side n b : ℕ} {e : List ℕ} {d : ℕ} {l : List ℕ} {c : Counts} (o : CanUnfold (table ns pool) side n b e d l c) {x : Node} (i : NodeIs ns n x) where
  abbrev t : Table
  t = table ns pool

  abbrev ρ : Env
  ρ = env_of e d

  walks_here : Walks t n
  walks_here = walks ns pool n d o.scoped x i

  is : (κ : ℕ) → x.word ≡ κ → term t n ≡ build κ t n (term t)
  is κ k = at_kind (λ a. a) ns pool n walks_here x i κ k

  here : {a : Term} → term t n ≡ a → (f m : List ℕ) (r : Counts) → UnfoldedIs side a b e d l c f m r → UnfoldedIs side (term t n) b e d l c f m r
  here q f m r h = subst (λ (y : Term). UnfoldedIs side y b e d l c f m r) (sym q) h

  short_here : {a : Term} → term t n ≡ a → long_in a ρ ≡ false
  short_here q = ap (λ (a : Term). long_in a ρ) (sym q) ∙ o.short

  pub names_few : d ≤ 8
  names_few = omega (arith, few t o.scoped.passes n o.scoped.inside, o.scoped.names)

  -- THE CALLS: the measure falls
  module _ (T : ℕ) (m : count t - n ≡ T) where
    pub left_less : x.word ≡ 1 → count t - x.a < T
    left_less k = (on_left ns pool n walks_here x i T m k).0

    pub right_less : x.word ≡ 1 → count t - x.b < T
    right_less k = (on_right ns pool n walks_here x i T m k).0

    pub box_less : x.word ≡ 2 → count t - x.b < T
    box_less k = (on_box ns pool n walks_here x i T m k).0

    pub new_less : x.word ≡ 3 → count t - x.b < T
    new_less k = (on_new ns pool n walks_here x i T m k).0

  -- PARALLEL: one child after the other
  module _ (k : x.word ≡ 1) where
    par_term : term t n ≡ par n (term t x.a) (term t x.b)
    unfolding build
    par_term = is 1 k ∙ ap₂ (λ (y z : ℕ). par n (term t y) (term t z)) (sym i.f1) (sym i.f2)

    par_short : (long_in (term t x.a) ρ ≡ false) × (long_in (term t x.b) ρ ≡ false)
    unfolding long_in
    par_short = neither _ _ (short_here par_term)

    pub left_can : CanUnfold t side x.a b e d l c
    left_can =
        let z = sizes par_term in
        record {
          narrow = o.narrow;
          scoped = scoped_left ns pool n d o.scoped x i k;
          short = par_short.0;
          particles = omega (arith, o.particles);
          boxes = omega (arith, o.boxes);
          minted = omega (arith, o.minted);
          place = o.place;
          long = o.long;
          width = o.width;
          values = o.values;
          fits = o.fits;
        }

    -- the left child is unfolded
    module _ {e1 l1 : List ℕ} {c1 : Counts} (f : UnfoldedIs side (term t x.a) b e d l c e1 l1 c1) where
      same_env : env_of e1 d ≡ ρ
      same_env = env_same e e1 d f.names f.places

      pub right_can : CanUnfold t side x.b b e1 d l1 c1
      right_can =
          let z = sizes par_term in
          record {
            narrow = o.narrow;
            scoped = scoped_right ns pool n d o.scoped x i k;
            short = ap (λ (π : Env). long_in (term t x.b) π) same_env ∙ par_short.1;
            particles = omega (arith, o.particles, f.particles);
            boxes = omega (arith, o.boxes, f.boxes);
            minted = omega (arith, o.minted, f.minted);
            place = o.place;
            long = f.long ∙ o.long;
            width = f.width ∙ o.width;
            values = ap (every fits_place) f.places ∙ o.values;
            fits = f.fits;
          }

      pub par_is : {e2 l2 : List ℕ} {c2 : Counts} → UnfoldedIs side (term t x.b) b e1 d l1 c1 e2 l2 c2 → UnfoldedIs side (term t n) b e d l c e2 l2 c2
      unfolding unfolds
      par_is g = here par_term _ _ _ (record {
        view = g.view ∙ ap₂ (λ (π : Env) (s : Contents). unfolds side (term t x.b) π b s) same_env f.view;
        fits = g.fits;
        particles = omega (arith, f.particles, g.particles);
        boxes = omega (arith, f.boxes, g.boxes);
        minted = omega (arith, f.minted, g.minted);
        shelf = g.shelf ∙ f.shelf;
        long = g.long ∙ f.long;
        names = g.names ∙ f.names;
        places = g.places ∙ f.places;
        width = g.width ∙ f.width;
      })

  -- A BOX: the child unfolds in it
  pub box_free : x.word ≡ 2 → c.boxes < 16
  unfolding build
  box_free k = let z = sizes (is 2 k) in omega (arith, o.boxes)

  abbrev box_name : ℕ
  box_name = word ρ (field t n 1)

  module _ (k : x.word ≡ 2) {l1 : List ℕ} {c1 : Counts} (q : c1 ≡ one_box c) (h : l1 ≡ box_put l c.boxes box_name b) where
    box_term : term t n ≡ box n (field t n 1) (term t x.b)
    unfolding build
    box_term = is 2 k ∙ ap (λ (j : ℕ). box n (field t n 1) (term t j)) (sym i.f2)

    same_rows : rows_of l1 ≡ rows_of l
    same_rows = ap rows_of h ∙ box_rows_lem l c.boxes box_name b

    same_length : length l1 ≡ length l
    same_length = ap length h ∙ box_length l c.boxes box_name b

    box_more : counted l1 c1 ≡ add_box (counted l c) box_name b
    box_more =
        let ps = ap (λ (y : List (List ℕ)). map view_row (take c.particles y)) same_rows in
        let bs = ap (λ (y : List ℕ). view_boxes y (c.boxes + 1)) h ∙ box_view l c.boxes box_name b o.long (box_free k) in
        ap (counted l1) q ∙ ap₂ (λ (y : List Particle) (z : List Box). contents y z c.minted) ps bs

    pub box_can : CanUnfold t side x.b c.boxes e d l1 c1
    unfolding long_in
    box_can =
        let z = sizes box_term in
        let u = numbers q in
        record {
          narrow = o.narrow;
          scoped = scoped_box ns pool n d o.scoped x i k;
          short = short_here box_term;
          particles = omega (arith, o.particles);
          boxes = omega (arith, o.boxes);
          minted = omega (arith, o.minted);
          place = omega (arith, o.boxes);
          long = same_length ∙ o.long;
          width = o.width;
          values = o.values;
          fits = ap₂ (λ (j : ℕ) (y : List (List ℕ)). leb j 32 & every fits_row (take j y)) u.0 same_rows ∙ o.fits;
        }

    pub box_is : {e2 l2 : List ℕ} {c2 : Counts} → UnfoldedIs side (term t x.b) c.boxes e d l1 c1 e2 l2 c2 → UnfoldedIs side (term t n) b e d l c e2 l2 c2
    unfolding unfolds
    box_is g =
        let u = numbers q in
        let number : length (view_boxes l c.boxes) ≡ c.boxes = boxes_held l c.boxes (omega (arith, box_free k)) in
        here box_term _ _ _ (record {
          view = g.view ∙ ap₂ (λ (j : ℕ) (y : Contents). unfolds side (term t x.b) ρ j y) (sym number) box_more;
          fits = g.fits;
          particles = omega (arith, g.particles);
          boxes = omega (arith, g.boxes);
          minted = omega (arith, g.minted);
          shelf = g.shelf ∙ ap (drop 4640) h ∙ box_shelf l c.boxes box_name b (box_free k);
          long = g.long ∙ same_length;
          names = g.names;
          places = g.places;
          width = g.width;
        })

  -- A NEW NAME: the child unfolds under it
  pub name_free : x.word ≡ 3 → (c.minted < 256) × (d < 8)
  unfolding build
  name_free k =
      let z = sizes (is 3 k) in
      (omega (arith, o.minted), new_room ns pool n d o.scoped x i k)

  abbrev new_name : List ℕ
  new_name = (65536 * side + c.minted) ∷ []

  module _ (k : x.word ≡ 3) {e1 : List ℕ} {c1 : Counts} (q : c1 ≡ one_name c) (h : e1 ≡ bound e d (field t n 1) new_name) where
    new_term : term t n ≡ new n (field t n 1) (term t x.b)
    unfolding build
    new_term = is 3 k ∙ ap (λ (j : ℕ). new n (field t n 1) (term t j)) (sym i.f2)

    new_env : env_of e1 (d + 1) ≡ extend ρ (field t n 1 ∷ []) (new_name ∷ [])
    new_env = ap (λ (y : List ℕ). env_of y (d + 1)) h ∙ env_bound e d (field t n 1) new_name o.width (name_free k).1 (omega arith)

    new_fits : every fits_place (take (d + 1) (places_of e1)) ≡ true
    new_fits = rw h (fits_bound e d (field t n 1) new_name o.width (name_free k).1 (omega arith) o.values)

    new_width : length e1 ≡ length e
    new_width = ap length h ∙ bound_length e d (field t n 1) new_name

    old_names : take d e1 ≡ take d e
    old_names = ap (take d) h ∙ names_kept e d (field t n 1) new_name o.width (name_free k).1

    old_places : take d (places_of e1) ≡ take d (places_of e)
    old_places = ap (λ (y : List ℕ). take d (places_of y)) h ∙ places_kept e d (field t n 1) new_name o.width (name_free k).1 (omega arith)

    -- a new name has one word, whichever it is
    new_short : long_in (term t x.b) (env_of e1 (d + 1)) ≡ false
    unfolding long_in
    new_short =
        ap (long_in (term t x.b)) new_env ∙ long_new (term t x.b) ρ (field t n 1) (65536 * side + c.minted) (sized e d o.width names_few) ∙ short_here new_term

    pub new_can : CanUnfold t side x.b b e1 (d + 1) l c1
    new_can =
        let z = sizes new_term in
        let u = numbers q in
        record {
          narrow = o.narrow;
          scoped = scoped_new ns pool n d o.scoped x i k;
          short = new_short;
          particles = omega (arith, o.particles);
          boxes = omega (arith, o.boxes);
          minted = omega (arith, o.minted);
          place = o.place;
          long = o.long;
          width = new_width ∙ o.width;
          values = new_fits;
          fits = ap (fits_rows l) u.0 ∙ o.fits;
        }

    pub new_is : {e2 l2 : List ℕ} {c2 : Counts} → UnfoldedIs side (term t x.b) b e1 (d + 1) l c1 e2 l2 c2 → UnfoldedIs side (term t n) b e d l c e2 l2 c2
    unfolding unfolds
    new_is {e2} g =
        let u = numbers q in
        here new_term _ _ _ (record {
          view = g.view ∙ ap₂ (λ (π : Env) (y : Counts). unfolds side (term t x.b) π b (counted l y)) new_env q;
          fits = g.fits;
          particles = omega (arith, g.particles);
          boxes = omega (arith, g.boxes);
          minted = omega (arith, g.minted);
          shelf = g.shelf;
          long = g.long;
          names = kept_before d e e1 e2 g.names old_names;
          places = kept_before d (places_of e) (places_of e1) (places_of e2) g.places old_places;
          width = g.width ∙ new_width;
        })

  -- A PARTICLE: an output or an input
  module _ {a : Term} (q : term t n ≡ a) (one : particles_in a ≡ 1) (no : boxes_in a ≡ 0) (none : new_names_in a ≡ 0) where
    row_free : RowFree b e d l c
    row_free =
        let z = sizes q in
        record { long = o.long; free = omega (arith, o.particles); place = o.place; width = o.width; few = names_few; values = o.values; fits = o.fits }

    particle_is : {p : Particle} {m : List ℕ} {r : Counts} → unfolds side a ρ b (counted l c) ≡ add_particle (counted l c) p → ParticleAdded p l c m r → UnfoldedIs side (term t n) b e d l c e m r
    particle_is {p} {m} {r} v f =
        let u = numbers f.counts in
        let bs : view_boxes m c.boxes ≡ view_boxes l c.boxes = ap (λ (y : List ℕ). map view_box (take c.boxes (parts 2 16 y))) f.behind in
        here q e m r (record {
          view = ap (counted m) f.counts ∙ ap₂ (λ (y : List Particle) (z : List Box). contents y z c.minted) f.view bs ∙ sym v;
          fits = ap (fits_rows m) u.0 ∙ f.fits;
          particles = omega (arith, one);
          boxes = omega (arith, no);
          minted = omega (arith, none);
          shelf = sym (drop-drop 32 4608 m) ∙ ap (drop 32) f.behind ∙ drop-drop 32 4608 l;
          long = f.long;
          names = refl;
          places = refl;
          width = refl;
        })

  module _ (k : x.word ≡ 4) where
    pub output_can : RowFree b e d l c × (length (substitute ρ (value_at t n)) ≤ 16)
    unfolding build long_in
    output_can = (row_free (is 4 k) refl refl refl, ltb-false 16 _ (short_here (is 4 k)))

    pub output_is : {m : List ℕ} {r : Counts} → ParticleAdded (output_at t n ρ b) l c m r → UnfoldedIs side (term t n) b e d l c e m r
    unfolding build unfolds
    output_is f = particle_is (is 4 k) refl refl refl refl f

  module _ (h : 5 ≤ x.word) where
    input_term : term t n ≡ build (suc (suc (suc (suc (suc (x.word - 5)))))) t n (term t)
    input_term = is (suc (suc (suc (suc (suc (x.word - 5)))))) (omega arith)

    pub input_can : RowFree b e d l c × (n < 256)
    unfolding build
    input_can = (row_free input_term refl refl refl, omega (arith, nodes_few t o.scoped.passes, o.scoped.inside))

    pub input_is : {m : List ℕ} {r : Counts} → ParticleAdded (input b n ρ.vals) l c m r → UnfoldedIs side (term t n) b e d l c e m r
    unfolding build unfolds
    input_is f = particle_is input_term refl refl refl refl f

  -- NOTHING
  pub nil_is : x.word ≡ 0 → UnfoldedIs side (term t n) b e d l c e l c
  unfolding build unfolds
  nil_is k = here (is 0 k) e l c (record {
    view = refl;
    fits = o.fits;
    particles = omega arith;
    boxes = omega arith;
    minted = omega arith;
    shelf = refl;
    long = refl;
    names = refl;
    places = refl;
    width = refl;
  })
