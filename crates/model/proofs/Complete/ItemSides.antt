-- Demand 2, second half: what the silent cases share. Which box a place is, which particle an output is, and what a silent step of a side answers.
use mathlib.Core.Path.{◌≡◌, refl, sym, ap, ap₂, ◌∙◌, subst}
use mathlib.Core.Bool.{Bool, true, false, cond, ◌&&◌, ◌||◌, false≢true}
use mathlib.Core.List.{List, [], ◌∷◌, ◌++◌, map}
use mathlib.Core.Logic.{◌⊎◌, inl, inr, ⊎_elim}
use mathlib.Core.Option.{some}
use Prim.Native.Nat.{ℕ, suc, ◌+◌, ◌≤◌}
use native.Mathlib.Omega.{arith}
use borrow.Author.Tests.{leb-true, ltb-true, le-leb, eqb-true, eq-eqb}
use lib.Dec.{leb, eqb, T}
use lib.ListN.{length, get_elem?, length-append}
use Rattle.calculus.specs.Syntax.{Val, Tag, plain, received_parent, received_child, Proc, ITag, ren, remark}
use Rattle.calculus.specs.Syntax.{nil as pnil, out as pout, parent as iparent, child as ichild}
use Rattle.calculus.specs.Congruence.{◌≋◌}
use Rattle.calculus.specs.Transitions.{tau, Participants}
use Rattle.calculus.specs.Tree.{Place, fill}
use Rattle.calculus.specs.Tree.{Item}
use Rattle.calculus.specs.Tree.{process}
use Rattle.calculus.specs.Named.{proc}
use Rattle.model.specs.Basics.{Res, refuse, done, need, bind, every, has}
use Rattle.model.specs.Table.{Table, Term, inp, count}
use Rattle.model.specs.Wrapper.{Wrapper, has_side}
use Rattle.model.specs.Side.{State, side, Box, Particle, output, input, Core, limits, Tag as STag, within, to_parent, from_parent, to_child, from_child}
use Rattle.model.specs.Load.{Composition, wrapper_of}
use Rattle.model.specs.WellFormed.{Counts, counts, wf_particle, env_at, shelf_of, ready}
use Rattle.model.specs.Step.{short, Result, Step, Moved, silent, Answer, labelled, refusal, settled, local, step, known, silently}
use Rattle.model.specs.Process.{Mark, part, boxed, own_name, site_of, val_of, code_of, env_of, tag_out, conf_as, conf_of, new_of, is_gone, part_item, shelf_item, shelf_items, enters, passes}
use Rattle.model.specs.Process.{takes, forwarders, place_of, places_of, all_places}
use Rattle.model.specs.Agreement.{plainly, At, asks_tau, Says, says_tau, Met, Excused, answer_side}
use Rattle.calculus.proofs.Trees.{Has, here, there}
use Rattle.calculus.proofs.Restriction.{RestrictInv}
use Rattle.calculus.proofs.Bags.{item, at, Bag, bag_eq, bag_trans, bag_sym, bag_cons, bag_mid, ritem, ritems, ritems_app}
use Rattle.model.proofs.Basics.Tests.{fst, snd, both, get_every, or_right}
use Rattle.model.proofs.Formed.Invariant.{settled_is, core_short, which, positive}
use Rattle.model.proofs.Basics.Checked.{Checked}
use Rattle.model.proofs.Processes.ItemFacts.{InputAt, input_at}
use Rattle.model.proofs.Sound.ItemMoves.{ids, forget, gone_bag}
use Rattle.model.proofs.Sound.SideViews.{View, new_same}
use Rattle.model.proofs.Complete.StateInversion.{rename_of, silent_target}
use Rattle.model.proofs.Complete.Completing.{Completed, what_eq, site_eq, tag_in, chan_in, val_in, mark_in, is_out, Answers}
use Rattle.model.proofs.Complete.ItemOwners.{shelf_on}
use Rattle.model.proofs.Complete.WrapperLevel.{Every, every_app, every_mid, every_has, every_get}
use Rattle.model.proofs.Processes.KnownNames.{known_all}

-- a box of the state by its place
pub record BoxAt (b : Composition) (s : State) (c : Place Mark) : Type 0 where
  pub n : ℕ
  pub is_side : has_side (wrapper_of b) n ≡ true
  pub j : ℕ
  pub box : Box
  pub get : get_elem? (side s n).core.contents.boxes j ≡ some box
  pub is : c ≡ place_of ids n j box

abbrev HasInv : Place Mark → List (Place Mark) → Type 0
HasInv c [] = ⊥
HasInv c (d ∷ bs) = (c ≡ d) ⊎ Has c bs

has_inv : {c : Place Mark} {l : List (Place Mark)} → Has c l → HasInv c l
has_inv here = inl refl
has_inv (there h) = inr h

place_in : {c : Place Mark} (side j : ℕ) (bs : List Box) (acc : List (Place Mark)) → Has c (places_of ids side j bs acc) → ((i : ℕ) × (x : Box) × (get_elem? bs i ≡ some x) × (c ≡ place_of ids side (j + i) x)) ⊎ Has c acc
place_in side j [] acc h = inr h
place_in {c} side j (b ∷ bs) acc h = go (place_in side (suc j) bs (place_of ids side j b ∷ acc) h)
  where
    go : ((i : ℕ) × (x : Box) × (get_elem? bs i ≡ some x) × (c ≡ place_of ids side (suc j + i) x)) ⊎ Has c (place_of ids side j b ∷ acc) → ((i : ℕ) × (x : Box) × (get_elem? (b ∷ bs) i ≡ some x) × (c ≡ place_of ids side (j + i) x)) ⊎ Has c acc
    go (inl r) = inl (suc r.0, r.1, r.2, r.3 ∙ ap (λ (n : ℕ). place_of ids side n r.1) (omega arith))
    go (inr q) = ⊎_elim (λ e. inl (0, b, refl, e ∙ ap (λ (n : ℕ). place_of ids side n b) (omega arith))) (λ g. inr g) (has_inv q)

-- among the boxes of the sides of a list
places_in : {c : Place Mark} (s : State) (ns : List ℕ) (acc : List (Place Mark)) → Has c (all_places ids s ns acc)
    → ((n : ℕ) × (has n ns ≡ true) × (i : ℕ) × (x : Box) × (get_elem? (side s n).core.contents.boxes i ≡ some x) × (c ≡ place_of ids n i x)) ⊎ Has c acc
places_in s [] acc h = inr h
places_in {c} s (k ∷ ns) acc h = go (places_in s ns (places_of ids k 0 (side s k).core.contents.boxes acc) h)
  where
    mine : ((i : ℕ) × (x : Box) × (get_elem? (side s k).core.contents.boxes i ≡ some x) × (c ≡ place_of ids k (0 + i) x)) ⊎ Has c acc
        → ((n : ℕ) × (has n (k ∷ ns) ≡ true) × (i : ℕ) × (x : Box) × (get_elem? (side s n).core.contents.boxes i ≡ some x) × (c ≡ place_of ids n i x)) ⊎ Has c acc
    mine (inl r) = inl (k, ap (λ (t : Bool). t || has k ns) (eq-eqb k k refl), r.0, r.1, r.2, r.3 ∙ ap (λ (n : ℕ). place_of ids k n r.1) (omega arith))
    mine (inr q) = inr q

    go : ((n : ℕ) × (has n ns ≡ true) × (i : ℕ) × (x : Box) × (get_elem? (side s n).core.contents.boxes i ≡ some x) × (c ≡ place_of ids n i x)) ⊎ Has c (places_of ids k 0 (side s k).core.contents.boxes acc)
        → ((n : ℕ) × (has n (k ∷ ns) ≡ true) × (i : ℕ) × (x : Box) × (get_elem? (side s n).core.contents.boxes i ≡ some x) × (c ≡ place_of ids n i x)) ⊎ Has c acc
    go (inl r) = inl (r.0, or_right (eqb r.0 k) (has r.0 ns) r.1, r.2, r.3, r.4, r.5)
    go (inr q) = mine (place_in k 0 (side s k).core.contents.boxes acc q)

pub box_at_lem : (b : Composition) (s : State) (c : Place Mark) → Has c (conf_of b s).boxes → BoxAt b s c
unfolding conf_as
box_at_lem b s c h = ⊎_elim (λ r. record { n = r.0; is_side = r.1; j = r.2; box = r.3; get = r.4; is = r.5 }) (λ q. absurd (has_inv q)) (places_in s (wrapper_of b).sides [] h)

-- a side's number is 1 or 2
pub of_two : (b : Composition) (n : ℕ) → has_side (wrapper_of b) n ≡ true → (1 ≤ n) × (n ≤ 2)
of_two b n h = positive n (which b.wrapper n h)

site_inj : (σ j τ k : ℕ) → (1 ≤ σ) × (σ ≤ 2) → (1 ≤ τ) × (τ ≤ 2) → site_of σ j ≡ site_of τ k → (σ ≡ τ) × (j ≡ k)
site_inj σ j τ k p q e = (omega (arith, p.0, p.1, q.0, q.1, e), omega (arith, p.0, p.1, q.0, q.1, e))

-- no box is the environment
pub site_pos : (b : Composition) (s : State) (c : Place Mark) → Has c (conf_of b s).boxes → c.site ≡ 0 → ⊥
site_pos b s c h q =
    let a = box_at_lem b s c h in
    let z : site_of a.n a.j ≡ 0 = sym (ap (λ (d : Place Mark). d.site) a.is) ∙ q in
    omega (arith, (of_two b a.n a.is_side).0, z)

-- an item gone and another added
pub moved_bag : (h : Item Mark) (X : List (Item Mark)) (k : ℕ) (Y : List (Item Mark)) → Bag (ritems forget (h ∷ (X ++ item k pnil ∷ Y))) (ritem forget h ∷ (ritems forget X ++ ritems forget Y))
unfolding remark
moved_bag h X k Y = bag_cons (ritem forget h) (bag_trans (bag_eq (ritems_app forget X (item k pnil ∷ Y))) (gone_bag (ritems forget X) k (ritems forget Y)))

pub put_back : (X Y : List (Item Mark)) (q : Item (Unit {0})) (t : List (Item (Unit {0}))) → ritems forget X ++ q ∷ ritems forget Y ≡ t → Bag (q ∷ (ritems forget X ++ ritems forget Y)) t
put_back X Y q t e = bag_trans (bag_sym (bag_mid (ritems forget X) q (ritems forget Y))) (bag_eq e)

-- a particle that is an output, by its item
pub record SentPart (side j k : ℕ) (t : Mark) (x : ℕ) (o : Tag ℕ) (v : Val ℕ) (p : Particle) : Type 0 where
  pub place : ℕ
  pub chan : ℕ
  pub tag : STag
  pub val : List ℕ
  pub is : p ≡ output place chan tag val
  pub site_is : k ≡ site_of side place
  pub mark_is : t ≡ part side j
  pub chan_is : x ≡ chan
  pub tag_is : o ≡ tag_out tag
  pub val_is : v ≡ val_of val

is_inp : (T : Table) (side j m : ℕ) (vs : List (List ℕ)) (r : Bool) (c g : ℕ) (p : List ℕ) (a : Term) → is_out (proc [] (part side j) (code_of (inp m r c g p a)) (env_of (env_at T m vs))) ≡ false
unfolding proc code_of
is_inp T side j m vs r c g p a = refl

pub sent_part : (T : Table) → Checked T → (k : Counts) (nb side j n : ℕ) (t : Mark) (x : ℕ) (o : Tag ℕ) (v : Val ℕ) (p : Particle) → wf_particle T k nb p ≡ true → item n (pout t x o v) ≡ part_item ids T side j p → SentPart side j n t x o v p
unfolding wf_particle
sent_part T ch k nb side j n t x o v (output β c g u) h q =
    let w = what_eq q in
    record { place = β; chan = c; tag = g; val = u; is = refl; site_is = site_eq q; mark_is = ap mark_in w; chan_is = ap chan_in w; tag_is = ap tag_in w; val_is = ap val_in w }
sent_part T ch k nb side j n t x o v (input β m vs) h q = absurd (no_out (input_at T ch m (ltb-true m (count T) (fst _ _ (snd _ _ h))) (fst _ _ (snd _ _ (snd _ _ h)))))
  where
    no_out : InputAt T m → ⊥
    no_out i = false≢true (sym (is_inp T side j m vs i.again i.chan i.tag i.pat i.body) ∙ ap (λ (a : Term). is_out (proc [] (part side j) (code_of a) (env_of (env_at T m vs)))) (sym i.is) ∙ sym (ap is_out (what_eq q)))

-- forwarders and shelves send nothing with a plain tag
abbrev is_plain : Tag ℕ → Bool
is_plain (plain g) = true
is_plain received_parent = false
is_plain (received_child n) = false

abbrev plain_out : Proc Mark [] → Bool
plain_out P = is_out P && is_plain (tag_in P)

abbrev NoPlain : Item Mark → Type 0
NoPlain i = plain_out i.what ≡ false

no_plain_forwarders : (w : Wrapper) → Every NoPlain (forwarders ids w)
no_plain_forwarders w = every_app NoPlain (map (enters ids w) w.sides) _ (every_has NoPlain (enters ids w) w.sides (λ n h. refl))
    (every_app NoPlain (map (passes ids w) w.sides) _ (every_has NoPlain (passes ids w) w.sides (λ n h. refl)) (every_get NoPlain (takes ids) w.routes (λ k r g. refl)))

no_plain_shelf : (gone : ℕ → Bool) (side n : ℕ) (l : List (List ℕ)) → Every NoPlain (shelf_items ids gone side n l)
no_plain_shelf gone side n [] = tt
no_plain_shelf gone side n (u ∷ l) = every_app NoPlain (cond (gone n) [] (shelf_item ids side n u ∷ [])) (shelf_items ids gone side (suc n) l) (go (gone n)) (no_plain_shelf gone side (suc n) l)
  where
    go : (c : Bool) → Every NoPlain (cond c [] (shelf_item ids side n u ∷ []))
    go true = tt
    go false = (refl, tt)

pub no_forwarder : (w : Wrapper) (X Y : List (Item Mark)) (k : ℕ) (t : Mark) (x : ℕ) (g : ITag ℕ) (v : Val ℕ) → forwarders ids w ≡ X ++ item k (pout t x (plain g) v) ∷ Y → ⊥
no_forwarder w X Y k t x g v q = false≢true (sym (every_mid NoPlain X (item k (pout t x (plain g) v)) Y (subst (Every NoPlain) q (no_plain_forwarders w))))

pub not_shelved : (b : Composition) (s : State) (n : ℕ) (X Y : List (Item Mark)) (k : ℕ) (t : Mark) (x : ℕ) (g : ITag ℕ) (v : Val ℕ) → shelf_on b s n ≡ X ++ item k (pout t x (plain g) v) ∷ Y → ⊥
not_shelved b s n X Y k t x g v q = false≢true (sym (every_mid NoPlain X (item k (pout t x (plain g) v)) Y (subst (Every NoPlain) q (no_plain_shelf (is_gone s n) n 0 (side s n).core.shelf))))

-- tags that go up and down
pub tag_up : (g : STag) → plain iparent ≡ tag_out g → g ≡ to_parent
tag_up within q = absurd (let z : ◌≡◌ {A = ℕ} 0 1 = cc in omega arith)
tag_up to_parent q = refl
tag_up from_parent q = absurd (let z : ◌≡◌ {A = ℕ} 0 1 = cc in omega arith)
tag_up (to_child n) q = absurd (let z : ◌≡◌ {A = ℕ} 0 1 = cc in omega arith)
tag_up (from_child n) q = absurd (let z : ◌≡◌ {A = ℕ} 0 1 = cc in omega arith)

pub tag_into : (n : ℕ) (g : STag) → plain (ichild n) ≡ tag_out g → g ≡ to_child n
tag_into n within q = absurd (let z : ◌≡◌ {A = ℕ} 0 1 = cc in omega arith)
tag_into n to_parent q = absurd (let z : ◌≡◌ {A = ℕ} 0 1 = cc in omega arith)
tag_into n from_parent q = absurd (let z : ◌≡◌ {A = ℕ} 0 1 = cc in omega arith)
tag_into n (to_child m) q = let p : m ≡ n = cc in ap to_child p
tag_into n (from_child m) q = absurd (let z : ◌≡◌ {A = ℕ} 0 1 = cc in omega arith)

pub one_more : {A : Type 0} (l : List A) (x : A) → length (l ++ x ∷ []) ≡ length l + 1
one_more l x = length-append l (x ∷ [])

-- a limit that is passed
settled_17 : (r : Res Moved) (m : Moved) → r ≡ done m → every short m.core.contents.particles ≡ true → limits m.core ≡ false → settled r ≡ refuse 17
unfolding settled bind need
settled_17 r m p q l = rw (p, q, l)

pub limits_of : (q : Core) → length q.contents.particles ≤ 32 → length q.contents.boxes ≤ 16 → q.contents.minted ≤ 256 → length q.lobby ≤ 16 → length q.shelf ≤ 32 → limits q ≡ true
unfolding limits
limits_of q p x m l h = both _ _ (both _ _ (le-leb _ _ p) (both _ _ (le-leb _ _ x) (le-leb _ _ m))) (both _ _ (le-leb _ _ l) (le-leb _ _ h))

module _ (b : Composition) (s : State) (e : ready b s ≡ true) where
  of_side : (vw : View b s) → Answers b s vw → (σ j : ℕ) (x : Box) → σ ≡ vw.c.side → get_elem? (side s σ).core.contents.boxes j ≡ some x → get_elem? vw.core.contents.boxes j ≡ some x
  of_side vw ac σ j x p g = sym (ap (λ (k : Core). get_elem? k.contents.boxes j) ac.core_is) ∙ subst (λ (n : ℕ). get_elem? (side s n).core.contents.boxes j ≡ some x) p g

  -- the box of a side whose site is given
  pub box_of : (vw : View b s) → Answers b s vw → (c : Place Mark) → Has c (conf_of b s).boxes → (β : ℕ) → c.site ≡ site_of vw.c.side β
      → (x : Box) × (get_elem? vw.core.contents.boxes β ≡ some x) × (c ≡ place_of ids vw.c.side β x)
  box_of vw ac c has β q =
      let a = box_at_lem b s c has in
      let p = site_inj a.n a.j vw.c.side β (of_two b a.n a.is_side) (of_two b vw.c.side vw.is_side) (sym (ap (λ (d : Place Mark). d.site) a.is) ∙ q) in
      (a.box, subst (λ (n : ℕ). get_elem? vw.core.contents.boxes n ≡ some a.box) p.1 (of_side vw ac a.n a.j a.box p.0 a.get), a.is ∙ ap₂ (λ (σ j : ℕ). place_of ids σ j a.box) p.0 p.1)

  -- the box whose parent's site is given: at the environment it is a side's box 0, elsewhere another box of the same side
  pub record Root (c : Place Mark) : Type 0 where
    pub side : ℕ
    pub is_side : has_side (wrapper_of b) side ≡ true
    pub site_is : c.site ≡ site_of side 0
    pub name_is : c.name ≡ own_name side
    pub mark_is : c.mark ≡ boxed side 0

  pub root_of : (c : Place Mark) → Has c (conf_of b s).boxes → c.parent ≡ 0 → Root c
  root_of c has q = go (box_at_lem b s c has)
    where
      go : BoxAt b s c → Root c
      go a = by_zero (eqb a.j 0) refl
        where
          by_zero : (t : Bool) → eqb a.j 0 ≡ t → Root c
          by_zero true z =
              let j0 = eqb-true a.j 0 z in
              let is0 : c ≡ place_of ids a.n 0 a.box = a.is ∙ ap (λ (n : ℕ). place_of ids a.n n a.box) j0 in
              record { side = a.n; is_side = a.is_side; site_is = ap (λ (d : Place Mark). d.site) is0; name_is = ap (λ (d : Place Mark). d.name) is0; mark_is = ap (λ (d : Place Mark). d.mark) is0 }
          by_zero false z =
              let y : site_of a.n a.box.parent ≡ 0 = sym (ap (λ (d : Place Mark). d.parent) a.is ∙ ap (λ (t : Bool). cond t 0 (site_of a.n a.box.parent)) z) ∙ q in
              absurd (omega (arith, (of_two b a.n a.is_side).0, y))

  pub record Child (vw : View b s) (c : Place Mark) (β : ℕ) : Type 0 where
    pub j : ℕ
    pub box : Box
    pub get : get_elem? vw.core.contents.boxes j ≡ some box
    pub later : eqb j 0 ≡ false
    pub parent_is : box.parent ≡ β
    pub site_is : c.site ≡ site_of vw.c.side j
    pub name_is : c.name ≡ box.name
    pub mark_is : c.mark ≡ boxed vw.c.side j

  pub child_of_lem : (vw : View b s) → Answers b s vw → (c : Place Mark) → Has c (conf_of b s).boxes → (β : ℕ) → c.parent ≡ site_of vw.c.side β → Child vw c β
  child_of_lem vw ac c has β q = go (box_at_lem b s c has)
    where
      go : BoxAt b s c → Child vw c β
      go a = by_zero (eqb a.j 0) refl
        where
          by_zero : (t : Bool) → eqb a.j 0 ≡ t → Child vw c β
          by_zero true z =
              let y : 0 ≡ site_of vw.c.side β = sym (ap (λ (d : Place Mark). d.parent) a.is ∙ ap (λ (t : Bool). cond t 0 (site_of a.n a.box.parent)) z) ∙ q in
              absurd (omega (arith, (of_two b vw.c.side vw.is_side).0, y))
          by_zero false z =
              let y : site_of a.n a.box.parent ≡ site_of vw.c.side β = sym (ap (λ (d : Place Mark). d.parent) a.is ∙ ap (λ (t : Bool). cond t 0 (site_of a.n a.box.parent)) z) ∙ q in
              let p = site_inj a.n a.box.parent vw.c.side β (of_two b a.n a.is_side) (of_two b vw.c.side vw.is_side) y in
              let here : c ≡ place_of ids vw.c.side a.j a.box = a.is ∙ ap (λ (σ : ℕ). place_of ids σ a.j a.box) p.0 in
              record {
                j = a.j;
                box = a.box;
                get = of_side vw ac a.n a.j a.box p.0 a.get;
                later = z;
                parent_is = p.1;
                site_is = ap (λ (d : Place Mark). d.site) here;
                name_is = ap (λ (d : Place Mark). d.name) here ∙ ap (λ (t : Bool). cond t (own_name vw.c.side) a.box.name) z;
                mark_is = ap (λ (d : Place Mark). d.mark) here;
              }

  -- a side's limits and its outputs' lengths
  pub few_parts : (vw : View b s) → length vw.core.contents.particles ≤ 32
  few_parts vw = leb-true (length vw.core.contents.particles) 32 (fst _ _ vw.ok.contents.few)

  pub few_boxes : (vw : View b s) → length vw.core.contents.boxes ≤ 16
  few_boxes vw = leb-true (length vw.core.contents.boxes) 16 (fst _ _ (snd _ _ vw.ok.contents.few))

  pub few_minted : (vw : View b s) → vw.core.contents.minted ≤ 256
  few_minted vw = leb-true vw.core.contents.minted 256 (snd _ _ (snd _ _ vw.ok.contents.few))

  pub all_short : (vw : View b s) → every short vw.core.contents.particles ≡ true
  all_short vw = core_short vw.c (counts s) vw.core vw.ok

  pub val_short : (vw : View b s) (j β ch : ℕ) (g : STag) (u : List ℕ) → get_elem? vw.core.contents.particles j ≡ some (output β ch g u) → leb (length u) 16 ≡ true
  val_short vw j β ch g u q = get_every short vw.core.contents.particles j (output β ch g u) (all_short vw) q

  -- what a step at the place of a silent transition does
  abbrev pub Outcome : Proc Mark [] → Step → Type 0
  Outcome R k = Met (known_all s) b s tau R k ⊎ ((n : ℕ) × ((step b s k).answer ≡ refusal n k.side) × Excused b s k tau n)

  -- the one step at a place
  pub complete_at : {w : Participants Mark} {R : Proc Mark []} (k : Step) → At (wrapper_of b) k w → (k.kind ≡ 1 → ⊥) → (k.kind ≡ 7 → ⊥) → ((x : Step) → At (wrapper_of b) x w → x ≡ k) → Outcome R k → Completed b s tau w R
  complete_at {w} {R} k a n1 n7 only o = ((k, a, asks_tau n1 n7), λ x ax ask. subst (λ (y : Step). Outcome R y) (sym (only x ax)) o)

  -- a silent step of a side: it leads where the transition leads, or a limit is passed
  pub silent_met : (vw : View b s) → Answers b s vw → {w : Participants Mark} {R : Proc Mark []} (v : RestrictInv (new_of b s) (known_all s) (fill (conf_of b s).boxes (at (conf_of b s).items)) R tau w) (k : Step) → k.side ≡ vw.c.side
      → (q : Core) → local vw.c (known s) (shelf_of s) vw.core k ≡ silently q → every short q.contents.particles ≡ true → q.contents.boxes ≡ vw.core.contents.boxes → q.contents.minted ≡ vw.core.contents.minted
      → (J : List (Item Mark)) → fill (conf_of b s).boxes (at J) ≋ v.next → (limits q ≡ true → Bag (ritems forget J) (ritems forget (conf_of b (vw.next q vw.left)).items)) → (limits q ≡ false → Excused b s k tau 17) → Outcome R k
  silent_met vw ac {w} {R} v k sd q lo sh eb em J n bag over = go (limits q) refl
    where
      m : Moved
      m = record { label = silent; val = []; core = q }

      go : (t : Bool) → limits q ≡ t → Outcome R k
      go false l = inr (17, ac.is_refused_lem k 17 sd (settled_17 _ m lo sh l) ∙ ap (refusal 17) (sym sd), over l)
      go true l =
          let d = settled_is _ m (record { is = lo; short_outputs = sh; few = l }) in
          let an : (step b s k).answer ≡ labelled silent vw.c.side [] = ap (λ (r : Result). r.answer) (ac.is_done_lem k m sd d) in
          inl (record {
            names = rename_of v;
            label = subst (λ (a : Answer). Says (wrapper_of b) a tau) (sym an) says_tau;
            side = ap answer_side an ∙ sym sd;
            target = subst (λ (t : State). plainly (ren {r = []} R v.perm.to) ≋ plainly (process (conf_of b t))) (sym (ap (λ (r : Result). r.after) (ac.is_done_lem k m sd d)))
                (silent_target b s e v J n (vw.next q vw.left) (new_same vw q em) (vw.boxes_next q vw.left eb) (bag l));
          })
