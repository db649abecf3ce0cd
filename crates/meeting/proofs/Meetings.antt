-- The whole step: what a pair is given, and the side after it, a law for each way that the code goes.
use mathlib.Core.Path.{◌≡◌, refl, sym, ap, ap₂, subst, ◌∙◌}
use mathlib.Core.Bool.{Bool, true, false, cond}
use mathlib.Core.List.{List, map}
use mathlib.Core.Option.{some}
use Prim.Native.Nat.{ℕ, ◌+◌, ◌-◌, ◌<◌, ◌≤◌}
use native.Mathlib.Omega.{arith}
use borrow.Author.Tests.{leb-true, le-leb, ltb-true, ltb-false, eqb-true}
use lib.Dec.{leb, ltb, eqb}
use lib.ListN.{length, take, drop, get_or}
use lib.Seq.{drop-drop}
use Rattle.model.specs.Basics.{◌&◌, refuse, every, remove}
use Rattle.model.specs.Values.{Env, binders, extend}
use Rattle.model.specs.Table.{Table, count, kind, scope, term}
use Rattle.model.specs.Side.{Particle, Box, input, Contents, Core}
use Rattle.model.specs.Unfolding.{unfolds, defined, particles_in, boxes_in, new_names_in}
use Rattle.model.specs.Load.{Setting}
use Rattle.model.specs.WellFormed.{wf_particle}
use Rattle.model.specs.Step.{with_contents, with_particles, without, meet, meet_particles, settled}
use Rattle.model.proofs.Basics.Tests.{fst, snd, both, length_gone}
use Rattle.model.proofs.Formed.Growing.{CoreOk, core_ok}
use Rattle.model.proofs.Basics.Environments.{Sized}
use Rattle.tables.specs.declared.nodes.Node.{Node}
use Rattle.tables.specs.declared.nodes.Kind.{Kind}
use Rattle.tables.specs.declared.nodes.Kind.TheVariants.{Rep}
use Rattle.tables.specs.contracts.nodes.Kind.{the_type}
use Rattle.tables.specs.Nodes.{table, NodeIs, KindIs}
use Rattle.tables.proofs.WalkLaws.{same_rep}
use denote.Enum.Bare.{sameb}
use Rattle.tables.specs.Checks.{Passes}
use Rattle.sides.specs.declared.Rest.{Rest}
use Rattle.sides.specs.Layout.{parts, row_at, view_place, fits_place, view_row, view_rows, fits_rows, view_boxes, view_shelf}
use Rattle.sides.specs.Sides.{core_of, fits_side}
use Rattle.sides.proofs.Viewing.{view_row_lem, input_view}
use Rattle.environments.specs.Inputs.{values_of}
use Rattle.environments.specs.Long.{long_in}
use Rattle.environments.proofs.Slots.{env_sized}
use Rattle.steps.specs.declared.Said.TheVariants as said
use Rattle.steps.specs.declared.Offer.{Offer}
use Rattle.steps.specs.declared.Offer.TheVariants.{Refused}
use Rattle.steps.specs.Asked.{number_of}
use Rattle.steps.proofs.Settling.{limits_in}
use Rattle.steps.proofs.Held.{every_elem}
use Rattle.steps.specs.declared.RestStep.{RestStep}
use Rattle.steps.specs.Asked.{Says}
use Rattle.steps.specs.StepIs.{Sane, StepIs}
use Rattle.steps.proofs.Held.{sane, side_rows, side_lobby, side_shelf, boxes_kept, rows_cap, rows_n, boxes_cap, boxes_n, row_in, fits_at_lem, value_in_place, output_home}
use Rattle.steps.proofs.Held.{offer_refused, quiet_is}
use Rattle.unfolding.specs.declared.Counts.{Counts}
use Rattle.unfolding.specs.Unfolded.{counted, put_counts, CanUnfold, UnfoldedIs}
use Rattle.meeting.specs.Meeting.{Meetable, MeetablePair, PairAt, node_at, body_at, input_env, input_pattern, Joins, Joining, room_for, Apart, RowsLeft}
use Rattle.meeting.proofs.MeetSteps.{meet_at, meet_17, meet_done}
use Rattle.meeting.proofs.PairLaws.{is_false}
use Rattle.meeting.proofs.Joining.{the_term, on_table, for_all}

-- WHAT A PAIR IS GIVEN
module _ {t : Table} {side : ℕ} {l : List ℕ} {o : Rest} (M : Meetable t side l o) where
  pub meetable_sane : Sane l o
  meetable_sane = sane M.setting M.counts l o M.long M.arrays M.ok

  core : CoreOk M.setting M.counts (core_of l o)
  core = core_ok M.setting M.counts (core_of l o) M.ok

  module _ {i j : ℕ} (A : PairAt l o.particles i j) where
    abbrev input_row : Particle
    input_row = input (get_or (row_at l j) 1 0) (node_at l j) (values_of (row_at l j))

    input_ok : wf_particle t M.counts (length (view_boxes l o.boxes)) input_row ≡ true
    input_ok =
        let held = view_row_lem l o.particles j A.held_j (rows_cap l o meetable_sane) ∙ ap some (input_view (row_at l j) A.inp) in
        subst (λ (u : Table). wf_particle u M.counts (length (view_boxes l o.boxes)) input_row ≡ true) M.table
        (every_elem (wf_particle M.setting.table M.counts (length (view_boxes l o.boxes))) (view_rows l o.particles) j input_row held core.contents.particles)

    pub pair_able : MeetablePair t side l o i j
    unfolding wf_particle
    pair_able =
        let ok = meetable_sane in
        let w = snd _ _ input_ok in
        record {
          narrow = M.narrow;
          sane = ok;
          pair = A;
          joinable = record {
            row = row_in l o ok i A.held_i;
            out = A.out;
            value = value_in_place l o ok i A.held_i A.out;
            waits = record {
              passes = M.passes;
              long = M.long;
              row = row_in l o ok j A.held_j;
              input = A.inp;
              fits = fits_at_lem l o ok j A.held_j;
              inside = ltb-true (node_at l j) (count t) (fst _ _ w);
              each = eqb-true (length (values_of (row_at l j))) (length (scope t (node_at l j))) (fst _ _ (snd _ _ (snd _ _ w)));
            };
            kind = leb-true 5 (kind t (node_at l j)) (fst _ _ (snd _ _ w));
          };
        }

-- how many particles are left
length_left : (replicated : Bool) (l : List Particle) (i j : ℕ) → i < length l → j < length l → (i ≡ j → ⊥) → length (without replicated l i j) ≡ length l - cond replicated 1 2
length_left true l i j p q n = omega (arith, length_gone l i p)
length_left false l i j p q n = go (ltb i j) refl
  where
    go : (c : Bool) → ltb i j ≡ c → length (cond c (remove (remove l j) i) (remove (remove l i) j)) ≡ length l - 2
    go true e = let a = length_gone l j q in let lt = ltb-true i j e in let d = length_gone (remove l j) i (omega arith) in omega (arith, a, d)
    go false e = let a = length_gone l i p in let ge = ltb-false i j e in let d = length_gone (remove l i) j (omega (arith, n)) in omega (arith, a, d)

-- the pair at the position that the check answered, which is the j that was asked for
pub met_at : (c : Setting) (l : List ℕ) (o : Rest) (i j k : ℕ) {m : List ℕ} {r : RestStep} → k ≡ j → StepIs (settled (meet c (core_of l o) i k)) l o m r → StepIs (settled (meet c (core_of l o) i j)) l o m r
met_at c l o i j k {m} {r} same x = subst (λ (y : ℕ). StepIs (settled (meet c (core_of l o) i y)) l o m r) same x

-- an input is replicated where its node's kind is 6
pub replicated_is : (ns pool : List ℕ) {n k : ℕ} → n ≡ k → {x : Node} → NodeIs ns n x → (κ : Kind) → KindIs x.word κ →
    {b : Bool} → b ≡ sameb the_type κ Rep → b ≡ eqb (kind (table ns pool) k) 6
replicated_is ns pool q i κ h e = e ∙ same_rep _ κ h ∙ ap (λ (y : ℕ). eqb y 6) (i.k ∙ ap (kind (table ns pool)) q)

-- THE PAIR
module _ {t : Table} {side : ℕ} {l : List ℕ} {o : Rest} {i j : ℕ} (M : MeetablePair t side l o i j) where
  abbrev ok : Sane l o
  ok = M.sane

  other : i ≡ j → ⊥
  other e = M.pair.inp (ap (λ (k : ℕ). get_or (row_at l k) 0 0) (sym e) ∙ M.pair.out)

  pub two_rows : 2 ≤ o.particles
  two_rows = omega (arith, other, M.pair.held_i, M.pair.held_j)

  pub rows_apart : Apart l o.particles i j
  rows_apart = record { long = ok.long; few = rows_cap l o ok; held_i = M.pair.held_i; held_j = M.pair.held_j; other = other }

  -- the model's step is that of the two particles
  at_pair : (c : Setting) → meet c (core_of l o) i j ≡ meet_particles c (core_of l o) i j (view_row (row_at l i)) (view_row (row_at l j))
  at_pair c =
      meet_at c (core_of l o) i j _ _ (view_row_lem l o.particles i M.pair.held_i (rows_cap l o ok)) (view_row_lem l o.particles j M.pair.held_j (rows_cap l o ok))

  -- a refusal of 13 to 16
  pub pair_refused : (e : List ℕ) {x : ℕ} → Joining t l i j e (Refused x) → {a : Offer} → a ≡ Refused x → {r : RestStep} → Says (said.Refused (number_of a)) o r →
      (c : Setting) → c.table ≡ t → StepIs (settled (meet c (core_of l o) i j)) l o l r
  pair_refused e unmet q says c ct = offer_refused l (ap settled (at_pair c) ∙ unmet c ct (core_of l o)) q says

-- where they join: the body, at node n, is to unfold under the first d names of e, and so many rows are left
pub record Joined (t : Table) (side : ℕ) (l : List ℕ) (o : Rest) (i j : ℕ) (e : List ℕ) (d : ℕ) (replicated : Bool) (left n : ℕ) : Type 0 where
  pub given : MeetablePair t side l o i j
  pub joins : Joins t l i j e d
  pub again : replicated ≡ eqb (kind t (node_at l j)) 6
  pub rows : left ≡ o.particles - cond replicated 1 2
  pub body : n ≡ body_at t l j

-- WHERE THEY JOIN
module _ {t : Table} {side : ℕ} {l : List ℕ} {o : Rest} {i j : ℕ} {e : List ℕ} {d : ℕ} {replicated : Bool} {left n : ℕ} (K : Joined t side l o i j e d replicated left n) where
  abbrev M : MeetablePair t side l o i j
  M = K.given

  abbrev J : Joins t l i j e d
  J = K.joins

  abbrev node : ℕ
  node = body_at t l j

  abbrev π : Env
  π = extend (input_env t l j) (binders (input_pattern t l j)) J.fit.bound

  abbrev remains : List Particle
  remains = without (eqb (kind t (node_at l j)) 6) (view_rows l o.particles) i j

  its_defined : defined (term t node) π ≡ true
  its_defined = sym (ap (defined (term t node)) J.env) ∙ J.is_defined

  its_short : long_in (term t node) π ≡ false
  its_short = sym (ap (long_in (term t node)) J.env) ∙ J.short

  its_sized : Sized π
  its_sized = subst (λ (y : Env). Sized y) J.env (env_sized e d J.words)

  remain_left : length remains ≡ left
  remain_left =
      let v = rows_n l o (ok M) in
      ap (λ (b : Bool). length (without b (view_rows l o.particles) i j)) (sym K.again) ∙
      length_left replicated (view_rows l o.particles) i j (omega (arith, v, M.pair.held_i)) (omega (arith, v, M.pair.held_j)) (other M) ∙
      ap (λ (k : ℕ). k - cond replicated 1 2) v ∙ sym K.rows

  abbrev pub Room : ℕ → Type 0
  Room m = room_for (term t m) left o.boxes o.minted ≡ true

  -- the limits as the model has them
  room_then : room_for (term t node) left (length (view_boxes l o.boxes)) o.minted ≡ room_for (term t node) left o.boxes o.minted
  room_then = ap (λ (boxes : ℕ). room_for (term t node) left boxes o.minted) (boxes_n l o (ok M))

  pub room_asks : Passes t × (n < count t) × (left ≤ 32) × (o.boxes ≤ 16) × (o.minted ≤ 256)
  room_asks =
      (J.scoped.passes, subst (λ (x : ℕ). x < count t) (sym K.body) J.scoped.inside, omega (arith, K.rows, rows_cap l o (ok M)), boxes_cap l o (ok M), (limits_in (core_of l o) (ok M).few).minted)

  -- 17
  pub pair_full : {x : ℕ} → (x ≡ 17) × (Room n → ⊥) → {a : Offer} → a ≡ Refused x → {r : RestStep} → Says (said.Refused (number_of a)) o r →
      (c : Setting) → c.table ≡ t → StepIs (settled (meet c (core_of l o) i j)) l o l r
  pair_full unmet q says c ct =
      let none : room_for (term t node) left o.boxes o.minted ≡ false = is_false _ (λ y. unmet.1 (subst Room (sym K.body) y)) in
      let full = meet_17 (on_table M.joinable c) (core_of l o) i j _ _ _ _ _ (node_at l j) (values_of (row_at l j)) (node_at l j) (eqb (kind t (node_at l j)) 6) _ _ _ _
      (the_term M.joinable) J.fits J.fit J.matched its_defined its_sized its_short (ok M).short_outputs (ok M).few left remain_left (room_then ∙ none) in
      offer_refused l (ap settled (at_pair M c) ∙ for_all M.joinable c ct (core_of l o) ∙ full ∙ ap refuse (sym unmet.0)) q says

  -- THERE IS ROOM: the rows are gone, and the body, at node k, unfolds in box b
  module _ {k : ℕ} (w : (k ≡ n) × Room n) {m : List ℕ} (R : RowsLeft replicated l o.particles i j m) {b : ℕ} (be : b ≡ get_or (row_at l i) 1 0) where
    abbrev before : Counts
    before = record { particles = left; boxes = o.boxes; minted = o.minted }

    at_node : k ≡ node
    at_node = w.0 ∙ K.body

    room : Room node
    room = subst Room K.body w.1

    room_yes : (left + particles_in (term t node) ≤ 32) × (o.boxes + boxes_in (term t node) ≤ 16) × (o.minted + new_names_in (term t node) ≤ 256)
    room_yes =
        let few = leb-true (left + particles_in (term t node)) 32 (fst _ _ room) in
        let some-boxes = leb-true (o.boxes + boxes_in (term t node)) 16 (fst _ _ (snd _ _ room)) in
        (few, some-boxes, leb-true (o.minted + new_names_in (term t node)) 256 (snd _ _ (snd _ _ room)))

    can : CanUnfold t side node b e d m before
    can = record {
      narrow = M.narrow;
      scoped = J.scoped;
      short = J.short;
      particles = room_yes.0;
      boxes = room_yes.1;
      minted = room_yes.2;
      place = omega (arith, be, output_home l o (ok M) i M.pair.held_i M.pair.out, boxes_cap l o (ok M));
      long = R.long ∙ (ok M).long;
      width = J.words.long;
      values = J.words.places;
      fits = ap (fits_rows m) K.rows ∙ R.fits (side_rows l o (ok M).arrays);
    }

    pub body_can : CanUnfold t side k b e d m before
    body_can = subst (λ (x : ℕ). CanUnfold t side x b e d m before) (sym at_node) can

    -- what the body is added to, as the model has it
    before_is : counted m before ≡ with_particles (core_of l o).contents remains
    before_is =
        let ps : view_rows m left ≡ remains = ap (view_rows m) K.rows ∙ R.view ∙ ap (λ (a : Bool). without a (view_rows l o.particles) i j) K.again in
        ap₂ (λ (x : List Particle) (z : List Box). record { particles = x; boxes = z; minted = o.minted }) ps (boxes_kept l m R.behind o.boxes)

    module _ {f z : List ℕ} {u : Counts} (U : UnfoldedIs side (term t k) b e d m before f z u) where
      unfolded : UnfoldedIs side (term t node) b e d m before f z u
      unfolded = subst (λ (x : ℕ). UnfoldedIs side (term t x) b e d m before f z u) at_node U

      shelf_same : drop 4640 z ≡ drop 4640 l
      shelf_same = unfolded.shelf ∙ sym (drop-drop 32 4608 m) ∙ ap (drop 32) R.behind ∙ drop-drop 32 4608 l

      after_fits : fits_side z (put_counts o u) ≡ true
      after_fits =
          let shelf = ap (λ (x : List ℕ). leb o.shelved 32 & every fits_place (take o.shelved (parts 17 32 x))) shelf_same ∙ side_shelf l o (ok M).arrays in
          both _ _ unfolded.fits (both _ _ (le-leb u.boxes 16 (omega (arith, unfolded.boxes, room_yes.1))) (both _ _ (side_lobby l o (ok M).arrays) shelf))

      module _ (c : Setting) (cs : c.side ≡ side) (ct : c.table ≡ t) where
        abbrev after : Core
        after = with_contents (core_of l o) (unfolds c.side (term t node) π (get_or (row_at l i) 1 0) (with_particles (core_of l o).contents remains))

        contents_are : counted z u ≡ unfolds c.side (term t node) π (get_or (row_at l i) 1 0) (with_particles (core_of l o).contents remains)
        contents_are =
            unfolded.view ∙ ap (λ (v : Env). unfolds side (term t node) v b (counted m before)) J.env ∙
            ap₂ (λ (x : ℕ) (v : Contents). unfolds side (term t node) π x v) be before_is ∙
            ap (λ (x : ℕ). unfolds x (term t node) π (get_or (row_at l i) 1 0) (with_particles (core_of l o).contents remains)) (sym cs)

        after_is : core_of z (put_counts o u) ≡ after
        after_is =
            let shelf : view_shelf z o.shelved ≡ view_shelf l o.shelved = ap (λ (x : List ℕ). map view_place (take o.shelved (parts 17 32 x))) shelf_same in
            ap₂ (λ (x : Contents) (h : List (List ℕ)). record { contents = x; lobby = (core_of l o).lobby; shelf = h; taken = o.taken }) contents_are shelf

        pub pair_did : {s : Rest} → s ≡ put_counts o u → {r : RestStep} → Says said.Silent s r → StepIs (settled (meet c (core_of l o) i j)) l o z r
        pair_did {s} se {r} says =
            let did = meet_done (on_table M.joinable c) (core_of l o) i j _ _ _ _ _ (node_at l j) (values_of (row_at l j)) (node_at l j) (eqb (kind t (node_at l j)) 6) _ _ _ _
            (the_term M.joinable) J.fits J.fit J.matched its_defined its_sized its_short (ok M).short_outputs (ok M).few left remain_left (room_then ∙ room) in
            let whole = ap settled (at_pair M c) ∙ for_all M.joinable c ct (core_of l o) ∙ did in
            quiet_is _ after l z o s (put_counts o u) r whole says se after_is (unfolded.long ∙ R.long) after_fits
