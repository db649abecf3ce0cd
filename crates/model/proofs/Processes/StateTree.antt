-- A well-formed state's boxes and items, whole; and its process with the marks forgotten.
use mathlib.Core.Path.{◌≡◌, refl, sym, ap, ap₂, ◌∙◌, subst}
use mathlib.Core.Bool.{Bool, true, false, cond, ◌||◌, false≢true}
use mathlib.Core.List.{List, [], ◌∷◌, ◌++◌, map}
use mathlib.Core.Logic.{◌⊎◌, inl, inr, ⊎_elim}
use Prim.Native.Nat.{ℕ, suc, ◌+◌, ◌<◌, ◌≤◌}
use native.Mathlib.Omega.{arith}
use borrow.Author.Tests.{eqb-true, eq-eqb, ne_eqb}
use lib.Dec.{eqb}
use lib.ListN.{length}
use Rattle.calculus.specs.Syntax.{AllN, Proc, Scope, var, remark, the_name, iren}
use Rattle.calculus.specs.Syntax.{par as ppar, box as pbox, new as pnew, inp as pinp, parent as iparent, child as ichild}
use Rattle.calculus.specs.Transitions.{In, Fn⊆}
use Rattle.calculus.specs.Wrappers.{in_name, out_name}
use Rattle.calculus.specs.Tree.{Place}
use Rattle.calculus.specs.Tree.{Item}
use Rattle.calculus.specs.Named.{proc, Code, cnil, cpar, cbox, cnew, cout, cinp, named, shape, under_pat}
use Rattle.calculus.specs.Named.{Env as CEnv}
use Rattle.model.specs.Table.{Table, term}
use Rattle.model.specs.Side.{Particle, output, input, Message, down, arrived, leaving, State, side, Status as SPlace}
use Rattle.model.specs.Basics.{◌&◌, every, has}
use Rattle.model.specs.Wrapper.{Wrapper, Route, described, has_side, shelves}
use Rattle.model.specs.Load.{Composition, wrapper_of, table, setting}
use Rattle.model.specs.WellFormed.{counts, wf_particle, ready}
use Rattle.model.specs.Process.{Mark, part, enterer, passer, inert, own_name, site_of, code_of, env_of, numbered, by_side, is_gone, places_of, all_places, conf_as}
use Rattle.model.specs.Process.{part_item, msg_proc, msg_item, shelf_item, shelf_items, side_items, enters, passes, takes, forwarders}
use Rattle.calculus.proofs.Trees.{Wf, Behind, Reach}
use Rattle.calculus.proofs.Moves.{Rooted}
use Rattle.calculus.proofs.Bags.{ritem, ritems, ritems_app, rplaces}
use Rattle.calculus.proofs.Parallels.{Each as Parts}
use Rattle.calculus.proofs.Forwarders.{forward_all}
use Rattle.model.proofs.Basics.Tests.{fst, snd, both, or_cases, or_right, or_none, or_first}
use Rattle.model.proofs.Basics.Checked.{Checked}
use Rattle.model.proofs.Basics.Sides.{described_by}
use Rattle.model.proofs.Formed.Growing.{wf_in}
use Rattle.model.proofs.Formed.Invariant.{loaded, load_checked, which, positive, side_ok, few_minted}
use Rattle.model.proofs.Processes.KnownNames.{All, Distinct, held_in, low_in, own_in, sides_distinct}
use Rattle.model.proofs.Processes.Boxes.{Tree, grown, behind_other, reach_other, places_marks}
use Rattle.model.proofs.Processes.ItemFacts.{Each, each_app, each_numbered, part_in, msg_in, shelf_in}

and_false : (a b : Bool) → a ≡ false → b ≡ false → a || b ≡ false
and_false a b p q = rw (p, q)

-- routes go between sides of the wrapper
pub routes_in : (w : ℕ) → every (λ r. has_side (described w) r.source & has_side (described w) r.receiver) (described w).routes ≡ true
routes_in = described_by (λ d. every (λ r. has_side d r.source & has_side d r.receiver) d.routes ≡ true) refl (both _ _ (both _ _ refl refl) refl) refl refl

module _ (b : Composition) (s : State) (e : ready b s ≡ true) where
  pub checked_of : (n : ℕ) → has_side (wrapper_of b) n ≡ true → Checked (table b n)
  checked_of n h = (load_checked b (loaded b s e) n h).0

  pub few : (n : ℕ) → (side s n).core.contents.minted ≤ 256
  few n = few_minted b s e n

  -- a side's channels towards the environment
  pub outlet_low : (n : ℕ) → has_side (wrapper_of b) n ≡ true → (wrapper_of b).outlet n < 81
  outlet_low n h = described_by (λ d. d.outlet n < 81) (omega arith) (omega (arith, (positive n (which b.wrapper n h)).1)) (omega arith) (omega arith) b.wrapper

  pub inlet_low : (n : ℕ) → has_side (wrapper_of b) n ≡ true → (wrapper_of b).inlet n < 81
  inlet_low n h = described_by (λ d. d.inlet n < 81) (omega arith) (omega (arith, (positive n (which b.wrapper n h)).1)) (omega arith) (omega arith) b.wrapper

  -- copies leave on names known outside
  pub copies_in : Parts (In (All b s)) (wrapper_of b).copies
  copies_in = described_by (λ d. Parts (In (All b s)) d.copies) tt tt (low_in b s 3 (omega arith), tt) tt b.wrapper

  module _ {M : Type 0} (mk : Mark → M) where
    -- boxes so far, of the sides ns
    pub record Placed (ns : List ℕ) (acc : List (Place M)) : Type 0 where
      pub wf : Wf (All b s) acc
      pub rooted : Rooted acc
      pub root : Reach acc 0
      pub fresh : (m : ℕ) → 1 ≤ m → m ≤ 8 → has m ns ≡ false → (n : ℕ) → Behind (site_of m n) acc
      pub reach : (m : ℕ) → 1 ≤ m → m ≤ 8 → has m ns ≡ true → (p : ℕ) → p < length (side s m).core.contents.boxes → Reach acc (site_of m p)

    sites_apart : (m n i j : ℕ) → 1 ≤ m → m ≤ 8 → 1 ≤ n → n ≤ 8 → (m ≡ n → ⊥) → eqb (site_of m i) (site_of n j) ≡ false
    sites_apart m n i j a c x y h = ne_eqb (site_of m i) (site_of n j) (λ q. h (omega (arith, a, c, x, y, q)))

    place_side : (n : ℕ) → has_side (wrapper_of b) n ≡ true → (ns : List ℕ) (acc : List (Place M)) → has n ns ≡ false → Placed ns acc → Placed (n ∷ ns) (places_of mk n 0 (side s n).core.contents.boxes acc)
    place_side n h ns acc f p =
        let a = positive n (which b.wrapper n h) in
        let bs = (side s n).core.contents.boxes in
        let start : Tree mk (All b s) (counts s) (held_in b s) n 0 acc = record { wf = p.wf; rooted = p.rooted; behind = λ i l. p.fresh n a.0 (omega (arith, a.1)) f i; reach = λ i l. absurd (omega arith); root = p.root } in
        let t = grown mk (All b s) (counts s) (held_in b s) n a.0 (own_in b s n h) 0 bs acc (side_ok b s e n h).contents.boxes start in
        record {
          wf = t.wf;
          rooted = t.rooted;
          root = t.root;
          fresh = λ m x y q i. behind_other mk (All b s) (counts s) (held_in b s) (site_of m i) n (ne_eqb (site_of m i) 0 (λ z. omega (arith, x, z)))
              (λ j. sites_apart m n i j x y a.0 (omega (arith, a.1)) (other m q)) 0 bs acc (p.fresh m x y (or_none (eqb m n) (has m ns) q).1 i);
          reach = λ m x y q i l. ⊎_elim
              (λ z. let w : n ≡ m = sym (eqb-true m n z) in subst (λ (k : ℕ). i < length (side s k).core.contents.boxes → Reach (places_of mk n 0 bs acc) (site_of k i)) w (λ u. t.reach i (omega (arith, u))) l)
              (λ z. apart_reach m x y z i l (eqb m n) refl t.reach)
              (or_cases (eqb m n) (has m ns) q);
        }
      where
        other : (m : ℕ) → eqb m n || has m ns ≡ false → (m ≡ n → ⊥)
        other m q z = false≢true (sym (or_none (eqb m n) (has m ns) q).0 ∙ eq-eqb m n z)

        apart_reach : (m : ℕ) → 1 ≤ m → m ≤ 8 → has m ns ≡ true → (i : ℕ) → i < length (side s m).core.contents.boxes → (u : Bool) → eqb m n ≡ u →
            ((i : ℕ) → i < 0 + length (side s n).core.contents.boxes → Reach (places_of mk n 0 (side s n).core.contents.boxes acc) (site_of n i)) → Reach (places_of mk n 0 (side s n).core.contents.boxes acc) (site_of m i)
        apart_reach m x y z i l true q r = absurd (false≢true (sym f ∙ ap (λ (k : ℕ). has k ns) (sym (eqb-true m n q)) ∙ z))
        apart_reach m x y z i l false q r =
            let a = positive n (which b.wrapper n h) in
            reach_other mk (All b s) (counts s) (held_in b s) (site_of m i) n (λ j. sites_apart m n i j x y a.0 (omega (arith, a.1)) (λ w. false≢true (sym q ∙ eq-eqb m n w))) 0 (side s n).core.contents.boxes acc (p.reach m x y z i l)

    -- all sides of the wrapper
    place_all : (rest ns : List ℕ) (acc : List (Place M)) → ((n : ℕ) → has n rest ≡ true → has_side (wrapper_of b) n ≡ true) → Distinct rest → ((n : ℕ) → has n rest ≡ true → has n ns ≡ false) → Placed ns acc →
        (ms : List ℕ) × Placed ms (all_places mk s rest acc) × ((n : ℕ) → (has n rest ≡ true) ⊎ (has n ns ≡ true) → has n ms ≡ true)
    place_all [] ns acc h d f p = (ns, p, λ n q. ⊎_elim (λ z. absurd (false≢true z)) (λ z. z) q)
    place_all (m ∷ rest) ns acc h d f p =
        let here : has m (m ∷ rest) ≡ true = or_first (eqb m m) (has m rest) (eq-eqb m m refl) in
        let r = place_all rest (m ∷ ns) (places_of mk m 0 (side s m).core.contents.boxes acc) (λ n q. h n (or_right (eqb n m) (has n rest) q)) d.1
        (λ n q. and_false (eqb n m) (has n ns) (not_same n q) (f n (or_right (eqb n m) (has n rest) q))) (place_side m (h m here) ns acc (f m here) p) in
        (r.0, r.1, λ n q. r.2 n (⊎_elim (λ z. ⊎_elim (λ w. inr (or_first (eqb n m) (has n ns) w)) (λ w. inl w) (or_cases (eqb n m) (has n rest) z)) (λ z. inr (or_right (eqb n m) (has n ns) z)) q))
      where
        not_same : (n : ℕ) → has n rest ≡ true → eqb n m ≡ false
        not_same n q = ne_eqb n m (λ z. d.0 (subst (λ (k : ℕ). has k rest ≡ true) z q))

    pub boxes_of : List (Place M)
    boxes_of = all_places mk s (wrapper_of b).sides []

    -- any order of sides
    pub placed_for : (ns : List ℕ) → ((n : ℕ) → has n ns ≡ true → has_side (wrapper_of b) n ≡ true) → Distinct ns → (ms : List ℕ) × Placed ms (all_places mk s ns []) × ((n : ℕ) → (has n ns ≡ true) ⊎ (has n [] ≡ true) → has n ms ≡ true)
    placed_for ns h d = place_all ns [] [] h d (λ n q. refl) (record { wf = tt; rooted = tt; root = refl; fresh = λ m x y q n. tt; reach = λ m x y q p l. absurd (false≢true q) })

    placed : (ms : List ℕ) × Placed ms boxes_of × ((n : ℕ) → (has_side (wrapper_of b) n ≡ true) ⊎ (has n [] ≡ true) → has n ms ≡ true)
    unfolding boxes_of
    placed = place_all (wrapper_of b).sides [] [] (λ n q. q) (sides_distinct b.wrapper) (λ n q. refl) (record { wf = tt; rooted = tt; root = refl; fresh = λ m x y q n. tt; reach = λ m x y q p l. absurd (false≢true q) })

    pub wf_boxes_lem : Wf (All b s) (conf_as mk b s).boxes
    unfolding conf_as boxes_of
    wf_boxes_lem = placed.1.wf

    pub rooted_boxes : Rooted (conf_as mk b s).boxes
    unfolding conf_as boxes_of
    rooted_boxes = placed.1.rooted

    pub root_boxes : Reach (conf_as mk b s).boxes 0
    unfolding conf_as boxes_of
    root_boxes = placed.1.root

    pub reach_boxes : (n : ℕ) → has_side (wrapper_of b) n ≡ true → (p : ℕ) → p < length (side s n).core.contents.boxes → Reach (conf_as mk b s).boxes (site_of n p)
    unfolding conf_as boxes_of
    reach_boxes n h p l = let a = positive n (which b.wrapper n h) in placed.1.reach n a.0 (omega (arith, a.1)) (placed.2 n (inl h)) p l

    -- the items
    pub side_each : (n : ℕ) → has_side (wrapper_of b) n ≡ true → Each (All b s) (side_items mk (wrapper_of b) n (table b n) (side s n).core)
    side_each n h =
        let o = side_ok b s e n h in
        let c = setting b n in
        each_app (All b s) (numbered (msg_item mk (wrapper_of b) n) 0 (side s n).core.lobby) (numbered (part_item mk (table b n) n) 0 (side s n).core.contents.particles)
        (each_numbered (All b s) (wf_in c (counts s)) (msg_item mk (wrapper_of b) n)
        (msg_in mk (All b s) (counts s) (held_in b s) (low_in b s 0 (omega arith)) (wrapper_of b) n (shelves c.wrapper c.side) c.wrapper.copies (own_in b s n h) (low_in b s _ (outlet_low n h))) 0 (side s n).core.lobby o.lobby)
        (each_numbered (All b s) (wf_particle (table b n) (counts s) (length (side s n).core.contents.boxes)) (part_item mk (table b n) n)
        (part_in mk (All b s) (counts s) (held_in b s) (low_in b s 0 (omega arith)) (table b n) (checked_of n h) (length (side s n).core.contents.boxes) n) 0 (side s n).core.contents.particles o.contents.particles)

    pub shelf_each : (n : ℕ) → has_side (wrapper_of b) n ≡ true → Each (All b s) (shelf_items mk (is_gone s n) n 0 (side s n).core.shelf)
    shelf_each n h = shelf_in mk (All b s) (counts s) (held_in b s) (low_in b s 0 (omega arith)) n (low_in b s 2 (omega arith)) (own_in b s n h) (is_gone s n) 0 (side s n).core.shelf (side_ok b s e n h).shelf

    each_by : (f : ℕ → List (Item M)) (ns : List ℕ) → ((n : ℕ) → has n ns ≡ true → Each (All b s) (f n)) → Each (All b s) (by_side f ns)
    each_by f [] h = tt
    each_by f (n ∷ ns) h = each_app (All b s) (f n) (by_side f ns) (h n (or_first (eqb n n) (has n ns) (eq-eqb n n refl))) (each_by f ns (λ m q. h m (or_right (eqb m n) (has m ns) q)))

    each_map : (f : ℕ → Item M) (ns : List ℕ) → ((n : ℕ) → has n ns ≡ true → Fn⊆ (f n).what (All b s)) → Each (All b s) (map f ns)
    each_map f [] h = tt
    each_map f (n ∷ ns) h = (h n (or_first (eqb n n) (has n ns) (eq-eqb n n refl)), each_map f ns (λ m q. h m (or_right (eqb m n) (has m ns) q)))

    each_routes : (rs : List Route) → every (λ r. has_side (wrapper_of b) r.source & has_side (wrapper_of b) r.receiver) rs ≡ true → Each (All b s) (map (takes mk) rs)
    unfolding AllN
    each_routes [] h = tt
    each_routes (r ∷ rs) h = ((low_in b s 2 (omega arith), own_in b s r.source (fst _ _ (fst _ _ h)), (low_in b s 2 (omega arith), own_in b s r.receiver (snd _ _ (fst _ _ h)), tt)), each_routes rs (snd _ _ h))

    pub forwarders_each : Each (All b s) (forwarders mk (wrapper_of b))
    forwarders_each =
        let w = wrapper_of b in
        let entering = each_map (enters mk w) w.sides (λ n h.
        forward_all (mk (enterer n)) (mk inert) w.copies (w.inlet n) iparent in_name (ichild (own_name n)) (In (All b s))
        (low_in b s _ (inlet_low n h)) tt copies_in (low_in b s 0 (omega arith)) (own_in b s n h)) in
        let passing = each_map (passes mk w) w.sides (λ n h.
        forward_all (mk (passer n)) (mk inert) w.copies out_name (ichild (own_name n)) (w.outlet n) iparent (In (All b s))
        (low_in b s 1 (omega arith)) (own_in b s n h) copies_in (low_in b s _ (outlet_low n h)) tt) in
        each_app (All b s) (map (enters mk w) w.sides) _ entering
        (each_app (All b s) (map (passes mk w) w.sides) _ passing (each_routes w.routes (routes_in b.wrapper)))

    pub items_each : Each (All b s) (conf_as mk b s).items
    unfolding conf_as
    items_each = each_app (All b s) (forwarders mk (wrapper_of b)) _ forwarders_each
        (each_app (All b s) (by_side (λ n. shelf_items mk (is_gone s n) n 0 (side s n).core.shelf) (wrapper_of b).sides) _ (each_by _ (wrapper_of b).sides shelf_each) (each_by _ (wrapper_of b).sides side_each))

-- the marks forgotten, or changed
pub remark_proc : {M U : Type 0} (h : M → U) (s : Scope) (t : M) (c : Code) (ρ : CEnv s) → remark h (proc s t c ρ) ≡ proc s (h t) c ρ
unfolding remark proc
remark_proc h s t cnil ρ = refl
remark_proc h s t (cpar c d) ρ = ap₂ ppar (remark_proc h s t c ρ) (remark_proc h s t d ρ)
remark_proc h s t (cbox n c) ρ = λ k. pbox (h t) (the_name s (ρ n)) (remark_proc h s t c ρ k)
remark_proc h s t (cnew n c) ρ = ap pnew (remark_proc h (var ∷ s) t c (under_pat (named n) ρ))
remark_proc h s t (cout x i v) ρ = refl
remark_proc h s t (cinp m x i p c) ρ = λ k. pinp m (h t) (the_name s (ρ x)) (iren i (λ n. the_name s (ρ n))) (shape p) (remark_proc h (shape p ∷ s) t c (under_pat p ρ) k)

module _ {M U : Type 0} (mk : Mark → M) (h : M → U) where
  pub part_marks : (T : Table) (side i : ℕ) (p : Particle) → ritem h (part_item mk T side i p) ≡ part_item (λ m. h (mk m)) T side i p
  unfolding remark
  part_marks T side i (output b c g v) = refl
  part_marks T side i (input b n vs) = ap (λ (P : Proc U []). record { site = site_of side b; what = P }) (remark_proc h [] (mk (part side i)) (code_of (term T n)) (env_of (Rattle.model.specs.WellFormed.env_at T n vs)))

  pub msg_marks : (w : Wrapper) (side i : ℕ) (m : Message) → ritem h (msg_item mk w side i m) ≡ msg_item (λ m. h (mk m)) w side i m
  unfolding remark
  msg_marks w side i m = ap (λ (P : Proc U []). record { site = 0; what = P }) (go m.status)
    where
      go : (p : SPlace) → remark h (msg_proc mk w side i p m.chan m.val) ≡ msg_proc (λ m. h (mk m)) w side i p m.chan m.val
      go down = refl
      go arrived = refl
      go leaving = refl

  pub shelf_marks : (gone : ℕ → Bool) (side i : ℕ) (l : List (List ℕ)) → ritems h (shelf_items mk gone side i l) ≡ shelf_items (λ m. h (mk m)) gone side i l
  unfolding remark
  shelf_marks tk side i [] = refl
  shelf_marks tk side i (v ∷ l) = ritems_app h (cond (tk i) [] (shelf_item mk side i v ∷ [])) (shelf_items mk tk side (suc i) l) ∙ ap₂ (λ (a b : List (Item U)). a ++ b) (go (tk i)) (shelf_marks tk side (suc i) l)
    where
      go : (b : Bool) → ritems h (cond b [] (shelf_item mk side i v ∷ [])) ≡ cond b [] (shelf_item (λ m. h (mk m)) side i v ∷ [])
      go true = refl
      go false = refl

  pub by_marks : (f : ℕ → List (Item M)) (g : ℕ → List (Item U)) → ((n : ℕ) → ritems h (f n) ≡ g n) → (ns : List ℕ) → ritems h (by_side f ns) ≡ by_side g ns
  by_marks f g e [] = refl
  by_marks f g e (n ∷ ns) = ritems_app h (f n) (by_side f ns) ∙ ap₂ (λ (a b : List (Item U)). a ++ b) (e n) (by_marks f g e ns)

  pub all_marks : (s : State) (ns : List ℕ) (acc : List (Place M)) → rplaces h (all_places mk s ns acc) ≡ all_places (λ m. h (mk m)) s ns (rplaces h acc)
  all_marks s [] acc = refl
  all_marks s (n ∷ ns) acc = all_marks s ns (places_of mk n 0 (side s n).core.contents.boxes acc) ∙ ap (all_places (λ m. h (mk m)) s ns) (places_marks mk h n 0 (side s n).core.contents.boxes acc)

  pub boxes_marks : (b : Composition) (s : State) → rplaces h (conf_as mk b s).boxes ≡ (conf_as (λ m. h (mk m)) b s).boxes
  unfolding conf_as
  boxes_marks b s = all_marks s (wrapper_of b).sides []
