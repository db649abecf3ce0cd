-- Demand 2, second half, for the silent transitions in the environment: an output and an input that both stand there are an arrived
-- message on `out` and the side's forwarder (pass), or a shelf item and the forwarder of `mid` (take); the step there leads where the
-- transition leads, or a take is refused: 17.
use mathlib.Core.Path.{◌≡◌, refl, sym, ap, ap₂, ◌∙◌, subst}
use mathlib.Core.Bool.{Bool, true, false, not, cond, ◌||◌, false≢true, Bool-set}
use mathlib.Core.List.{List, [], ◌∷◌, ◌++◌, append_assoc}
use mathlib.Core.Logic.{◌≢◌, ◌⊎◌, inl, inr}
use mathlib.Core.Option.{some}
use Prim.Native.Nat.{ℕ, zero, suc, ◌+◌, ◌<◌, ◌≤◌}
use native.Mathlib.Omega.{arith}
use borrow.Author.Tests.{eq-eqb, not-true}
use lib.Dec.{eqb}
use lib.ListN.{length, get_elem?, get_or, set, length-append, length-set}
use Rattle.calculus.specs.Syntax.{Val, Pat, Vars, ITag, plain, received_child, Mode, Proc, comp, match, ren}
use Rattle.calculus.specs.Syntax.{nil as pnil, out as pout, inp as pinp, within as iwithin, parent as iparent, child as ichild}
use Rattle.calculus.specs.Congruence.{◌≋◌, symm, trans}
use Rattle.calculus.specs.Transitions.{tau, Participants, joint, InstOk}
use Rattle.calculus.specs.Tree.{fill, upd}
use Rattle.calculus.specs.Parallel.{parallel}
use Rattle.calculus.specs.Tree.{Item, select}
use Rattle.calculus.specs.Tree.{process}
use Rattle.calculus.specs.Wrappers.{forward_with}
use Rattle.model.specs.Basics.{◌&◌, Res, refuse, done, need, choose, bind, one_of}
use Rattle.model.specs.Wrapper.{Wrapper, Route, described, has_side, shelves}
use Rattle.model.specs.Side.{State, side, no_side, has_taken, taken_at, Message, Core, down, arrived, leaving, Status as SPlace}
use Rattle.model.specs.Load.{Composition, wrapper_of, Setting, setting}
use Rattle.model.specs.WellFormed.{Counts, counts, shelf_of, wf_message, ready}
use Rattle.model.specs.Step.{Step, Moved, silent, labelled, Result, refusal, settled, local, inner, step, known, copied, takes, route_to, is_arrived, pass as passing}
use Rattle.model.specs.Process.{Mark, lobby, shelf, passer, taker, inert, own_name, val_of, by_side, is_gone, conf_of, msg_proc, msg_item, shelf_item, shelf_items, forwarders, passes as passing-item, takes as taking-item}
use Rattle.model.specs.Agreement.{plainly, At, Asks, asks_tau, Says, says_tau, Met, Excused, by_17, pass_full, take_full, answer_side, enter, go_down, go_up, descend, meet, pass, leave, take}
use Rattle.calculus.proofs.Inversion.{after}
use Rattle.calculus.proofs.Forwarders.{copy_items}
use Rattle.calculus.proofs.Bags.{item, at, Bag, bag_app, bag_refl, bag_eq, bag_trans, bag_cons, bag_mid, bag_sym, ritem, ritems, ritems_app}
use Rattle.model.proofs.Basics.Sides.{described_by}
use Rattle.model.proofs.Basics.Tests.{both, snd, get_every, not_empty, no_some, some_inj, or_right, head_eq, tail_eq, or_none}
use Rattle.model.proofs.Formed.Growing.{wf_in}
use Rattle.model.proofs.Formed.Keeping.{length_copied}
use Rattle.model.proofs.Formed.Invariant.{copies_log, side_ok}
use Rattle.model.proofs.Processes.KnownNames.{known_all, All}
use Rattle.model.proofs.Basics.Splits.{get_pick}
use Rattle.model.proofs.Processes.StateTree.{shelf_marks}
use Rattle.model.proofs.Sound.ItemMoves.{ids, forget, plain_m, target, gone_of, sent_of, add_msgs, copied_items}
use Rattle.model.proofs.Sound.StateMoves.{wf_all, rooted_all}
use Rattle.model.proofs.Sound.SideViews.{View, pos, lt, F, own_now, new_same}
use Rattle.model.proofs.Sound.TakeMoves.{OnShelf, shelf_same, gone_here, gone_rest, hm, took_state, taken_bag, same_boxes, same_new}
use Rattle.model.proofs.Complete.StateInversion.{silent_target, rename_of, item_at}
use Rattle.model.proofs.Complete.ItemPlaces.{two_changed}
use Rattle.model.proofs.Complete.Completing.{Completed, Inv, inv_at, Answers, step_is, lobby_put, what_eq, tag_in, chan_in, val_in, mark_in, received, on_some, forwarded}
use Rattle.model.proofs.Complete.ItemOwners.{shelf_on, own_of, at_side}
use Rattle.model.proofs.Complete.WrapperLevel.{Input, enters_of, passes_of, takes_of, receiver_in, input_is, Sent, of_lobby, of_shelf, output_is}

-- THE SHELF

-- an item of a shelf has its place, which is not taken; and the shelf with that place taken is what stands beside it
record ShelfAt (gone : ℕ → Bool) (q n : ℕ) (l : List (List ℕ)) (X : List (Item Mark)) (i : Item Mark) (Y : List (Item Mark)) : Type 0 where
  j : ℕ
  v : List ℕ
  get : get_elem? l j ≡ some v
  free : gone (n + j) ≡ false
  is : i ≡ shelf_item ids q (n + j) v
  left : (gone' : ℕ → Bool) → gone' (n + j) ≡ true → ((x : ℕ) → (x ≡ n + j → ⊥) → n ≤ x → x < n + length l → gone' x ≡ gone x) → ritems forget X ++ ritems forget Y ≡ shelf_items forget gone' q n l

shelf_at_lem : (gone : ℕ → Bool) (q n : ℕ) (l : List (List ℕ)) (X : List (Item Mark)) (i : Item Mark) (Y : List (Item Mark)) → shelf_items ids gone q n l ≡ X ++ i ∷ Y → ShelfAt gone q n l X i Y
shelf_at_lem gone q n [] X i Y e = absurd (not_empty X i Y e)
shelf_at_lem gone q n (u ∷ l) X i Y e = go (gone n) refl X e (λ X e. shelf_at_lem gone q (suc n) l X i Y e)
  where
    n0 : n + 0 ≡ n
    n0 = omega arith

    more : (c : Bool) → gone n ≡ c → (X' : List (Item Mark)) → ShelfAt gone q (suc n) l X' i Y → (X : List (Item Mark)) → ritems forget X ≡ cond c [] (shelf_item forget q n u ∷ []) ++ ritems forget X' → ShelfAt gone q n (u ∷ l) X i Y
    more c p X' r X ex = record {
      j = suc r.j;
      v = r.v;
      get = r.get;
      free = subst (λ (z : ℕ). gone z ≡ false) (omega arith) r.free;
      is = r.is ∙ ap (λ (z : ℕ). shelf_item ids q z r.v) (omega arith);
      left = λ gone' g h. ap (λ (z : List (Item (Unit {0}))). z ++ ritems forget Y) ex ∙ append_assoc (cond c [] (shelf_item forget q n u ∷ [])) (ritems forget X') (ritems forget Y)
          ∙ ap₂ (λ (t : Bool) (z : List (Item (Unit {0}))). cond t [] (shelf_item forget q n u ∷ []) ++ z) (sym (h n (λ z. omega (arith, z)) (omega arith) (omega arith) ∙ p))
          (r.left gone' (subst (λ (z : ℕ). gone' z ≡ true) (omega arith) g) (λ x ne a d. h x (λ z. ne (omega (arith, z))) (omega arith) (omega arith)));
    }

    go : (c : Bool) → gone n ≡ c → (X : List (Item Mark)) → cond c [] (shelf_item ids q n u ∷ []) ++ shelf_items ids gone q (suc n) l ≡ X ++ i ∷ Y →
        ((X : List (Item Mark)) → shelf_items ids gone q (suc n) l ≡ X ++ i ∷ Y → ShelfAt gone q (suc n) l X i Y) → ShelfAt gone q n (u ∷ l) X i Y
    go true p X e ih = more true p X (ih X e) X refl
    go false p (y ∷ X) e ih = more false p X (ih X (tail_eq e)) (y ∷ X)
        (ap (λ (z : Item Mark). ritem forget z ∷ ritems forget X) (sym (head_eq e)) ∙ ap (λ (z : List (Item (Unit {0}))). z ++ ritems forget X) (shelf_marks ids forget (λ x. false) q n (u ∷ [])))
    go false p [] e ih = record {
      j = 0;
      v = u;
      get = refl;
      free = subst (λ (z : ℕ). gone z ≡ false) (sym n0) p;
      is = sym (head_eq e) ∙ ap (λ (z : ℕ). shelf_item ids q z u) (sym n0);
      left = λ gone' g h. ap (ritems forget) (sym (tail_eq e)) ∙ shelf_marks ids forget gone q (suc n) l
          ∙ sym (ap (λ (t : Bool). cond t [] (shelf_item forget q n u ∷ []) ++ shelf_items forget gone' q (suc n) l) (subst (λ (z : ℕ). gone' z ≡ true) n0 g)
          ∙ shelf_same gone gone' q (suc n) l (λ x a d. h x (λ z. omega (arith, z, a)) (omega arith) (omega arith)));
    }

-- what nobody has taken, a side has not
one_none : {A : Type 0} (f : A → Bool) (l : List A) (i : ℕ) (d : A) → one_of f l ≡ false → i < length l → f (get_or l i d) ≡ false
one_none f [] i d e h = absurd (omega arith)
one_none f (x ∷ l) zero d e h = (or_none (f x) (one_of f l) e).0
one_none f (x ∷ l) (suc i) d e h = one_none f l i d (or_none (f x) (one_of f l) e).1 (omega arith)

not_taken : (s : State) (n q i : ℕ) → 1 ≤ n → n ≤ length s.sides → is_gone s q i ≡ false → has_taken (side s n).core q i ≡ false
not_taken s zero q i a l g = absurd (omega arith)
not_taken s (suc n) q i a l g = one_none (λ o. has_taken o.core q i) s.sides n no_side g l

-- THE ROUTES

-- a side and j tell which route; source and receiver tell too
abbrev pipe : Route
pipe = record { source = 1; receiver = 2; j = 0 }

only_pipe : (k : ℕ) (r : Route) → get_elem? (pipe ∷ []) k ≡ some r → pipe ≡ r
only_pipe zero r g = some_inj g
only_pipe (suc k) r g = absurd (no_some g)

pub route_found : (w k : ℕ) (r : Route) → get_elem? (described w).routes k ≡ some r → route_to (described w).routes r.receiver r.j ≡ done r
unfolding route_to choose ◌&◌
route_found w = described_by (λ (d : Wrapper). (k : ℕ) (r : Route) → get_elem? d.routes k ≡ some r → route_to d.routes r.receiver r.j ≡ done r)
    (λ k r g. absurd (no_some g)) (λ k r g. subst (λ (z : Route). route_to (pipe ∷ []) z.receiver z.j ≡ done z) (only_pipe k r g) refl) (λ k r g. absurd (no_some g)) (λ k r g. absurd (no_some g)) w

pub route_sole : (w k k' : ℕ) (r r' : Route) → get_elem? (described w).routes k ≡ some r → get_elem? (described w).routes k' ≡ some r' → r.source ≡ r'.source → r.receiver ≡ r'.receiver → r ≡ r'
route_sole w = described_by (λ (d : Wrapper). (k k' : ℕ) (r r' : Route) → get_elem? d.routes k ≡ some r → get_elem? d.routes k' ≡ some r' → r.source ≡ r'.source → r.receiver ≡ r'.receiver → r ≡ r')
    (λ k k' r r' g g' p q. absurd (no_some g)) (λ k k' r r' g g' p q. sym (only_pipe k r g) ∙ only_pipe k' r' g') (λ k k' r r' g g' p q. absurd (no_some g)) (λ k k' r r' g g' p q. absurd (no_some g)) w

-- a route's source has a shelf
one_of_lem : {A : Type 0} (f : A → Bool) (l : List A) (k : ℕ) (x : A) → get_elem? l k ≡ some x → f x ≡ true → one_of f l ≡ true
one_of_lem f [] k x g e = absurd (no_some g)
one_of_lem f (y ∷ l) zero x g e = ap (λ (t : Bool). t || one_of f l) (ap f (some_inj g) ∙ e)
one_of_lem f (y ∷ l) (suc k) x g e = or_right (f y) (one_of f l) (one_of_lem f l k x g e)

source_shelves : (w : Wrapper) (k : ℕ) (r : Route) → get_elem? w.routes k ≡ some r → shelves w r.source ≡ true
source_shelves w k r g = one_of_lem (λ q. eqb q.source r.source) w.routes k r g (eq-eqb r.source r.source refl)

-- THE STEPS

abbrev pass_step : ℕ → ℕ → Step
pass_step σ j = record { kind = 6; side = σ; i = j; j = 0; words = [] }

abbrev take_step : Route → ℕ → Step
take_step r i = record { kind = 8; side = r.receiver; i = i; j = r.j; words = [] }

-- the step at the place of a passage, and of a take
passage_step : {W : Wrapper} {k : Step} {w : Participants Mark} → At W k w → (σ j : ℕ) → w ≡ joint (lobby σ j) (passer σ) → k ≡ pass_step σ j
passage_step enter σ j e = absurd (let z : ◌≡◌ {A = ℕ} 0 1 = cc in omega arith)
passage_step go_down σ j e = absurd (let z : ◌≡◌ {A = ℕ} 0 1 = cc in omega arith)
passage_step go_up σ j e = absurd (let z : ◌≡◌ {A = ℕ} 0 1 = cc in omega arith)
passage_step descend σ j e = absurd (let z : ◌≡◌ {A = ℕ} 0 1 = cc in omega arith)
passage_step meet σ j e = absurd (let z : ◌≡◌ {A = ℕ} 0 1 = cc in omega arith)
passage_step (pass {side = side} {i = i}) σ j e =
    let p : side ≡ σ = cc in
    let q : i ≡ j = cc in
    λ t. record { kind = 6; side = p t; i = q t; j = 0; words = [] }
passage_step leave σ j e = absurd (let z : ◌≡◌ {A = ℕ} 0 1 = cc in omega arith)
passage_step (take n q) σ j e = absurd (let z : ◌≡◌ {A = ℕ} 0 1 = cc in omega arith)

taking_step : (w : ℕ) {k : Step} {p : Participants Mark} → At (described w) k p → (n : ℕ) (r : Route) → get_elem? (described w).routes n ≡ some r → (i : ℕ) →
    p ≡ joint (shelf r.source i) (taker r.source r.receiver) → k ≡ take_step r i
taking_step w enter n r g i e = absurd (let z : ◌≡◌ {A = ℕ} 0 1 = cc in omega arith)
taking_step w go_down n r g i e = absurd (let z : ◌≡◌ {A = ℕ} 0 1 = cc in omega arith)
taking_step w go_up n r g i e = absurd (let z : ◌≡◌ {A = ℕ} 0 1 = cc in omega arith)
taking_step w descend n r g i e = absurd (let z : ◌≡◌ {A = ℕ} 0 1 = cc in omega arith)
taking_step w meet n r g i e = absurd (let z : ◌≡◌ {A = ℕ} 0 1 = cc in omega arith)
taking_step w pass n r g i e = absurd (let z : ◌≡◌ {A = ℕ} 0 1 = cc in omega arith)
taking_step w leave n r g i e = absurd (let z : ◌≡◌ {A = ℕ} 0 1 = cc in omega arith)
taking_step w (take n' {i = i'} {r = r'} g') n r g i e =
    let a : r'.source ≡ r.source = cc in
    let c : r'.receiver ≡ r.receiver = cc in
    let d : i' ≡ i = cc in
    ap₂ take_step (route_sole w n' n r' r g' g a c) d

pass_silent : (σ j : ℕ) → Asks (pass_step σ j) tau
pass_silent σ j = asks_tau {k = pass_step σ j} (λ z. omega arith) (λ z. omega arith)

take_silent : (r : Route) (i : ℕ) → Asks (take_step r i) tau
take_silent r i = asks_tau {k = take_step r i} (λ z. omega arith) (λ z. omega arith)

-- what the bench does there
abbrev passed : (copies : List ℕ) → Core → ℕ → List ℕ → Moved
passed cs s j v = record { label = silent; val = []; core = record { contents = s.contents; lobby = set s.lobby j (record { status = leaving; chan = 1; val = v }) ++ copied cs v; shelf = s.shelf; taken = s.taken } }

passes_there : (cs : List ℕ) (s : Core) (j : ℕ) (m : Message) → get_elem? s.lobby j ≡ some m → m.status ≡ arrived → m.chan ≡ 1 → passing cs s j ≡ done (passed cs s j m.val)
unfolding passing need ◌&◌
passes_there cs s j m g p c = get_pick s.lobby j _ m g ∙ ap₂ (λ (x : SPlace) (y : ℕ). need (is_arrived x & eqb y 1) 13 (done (passed cs s j m.val))) p c

pass_local : (c : Setting) (kn : ℕ → Bool) (sh : ℕ → List (List ℕ)) (s : Core) (σ j : ℕ) → local c kn sh s (pass_step σ j) ≡ passing c.wrapper.copies s j
unfolding local inner choose need
pass_local c kn sh s σ j = refl

abbrev taken : (source : ℕ) → Core → ℕ → List ℕ → Moved
taken q s i v = record { label = silent; val = []; core = record { contents = s.contents; lobby = s.lobby ++ (record { status = down; chan = 2; val = v } ∷ []); shelf = s.shelf; taken = set s.taken (taken_at q i) true } }

takes_there : (q : ℕ) (sh : List (List ℕ)) (s : Core) (i : ℕ) (v : List ℕ) → get_elem? sh i ≡ some v → has_taken s q i ≡ false → takes q sh s i ≡ done (taken q s i v)
unfolding takes need
takes_there q sh s i v g f = get_pick sh i _ v g ∙ ap (λ (t : Bool). need (not t) 13 (done (taken q s i v))) f

take_local : (c : Setting) (kn : ℕ → Bool) (sh : ℕ → List (List ℕ)) (s : Core) (r : Route) (i : ℕ) → route_to c.wrapper.routes c.side r.j ≡ done r → local c kn sh s (take_step r i) ≡ takes r.source (sh r.source) s i
unfolding local choose need bind
take_local c kn sh s r i f = ap (λ (q : Res Route). bind q λ r. takes r.source (sh r.source) s i) f

-- THE TAGS

comp_child : (g : ITag ℕ) (n : ℕ) → comp (plain g) ≡ received_child n → g ≡ ichild n
comp_child iwithin n e = absurd (let z : ◌≡◌ {A = ℕ} 0 1 = cc in omega arith)
comp_child iparent n e = absurd (let z : ◌≡◌ {A = ℕ} 0 1 = cc in omega arith)
comp_child (ichild m) n e = let q : m ≡ n = cc in ap ichild q

comp_not_child : (g : ITag ℕ) (n : ℕ) → comp (plain g) ≡ plain (ichild n) → ⊥
comp_not_child iwithin n e = let z : ◌≡◌ {A = ℕ} 0 1 = cc in omega arith
comp_not_child iparent n e = let z : ◌≡◌ {A = ℕ} 0 1 = cc in omega arith
comp_not_child (ichild m) n e = let z : ◌≡◌ {A = ℕ} 0 1 = cc in omega arith

comp_not_parent : (g : ITag ℕ) → comp (plain g) ≡ plain iparent → ⊥
comp_not_parent iwithin e = let z : ◌≡◌ {A = ℕ} 0 1 = cc in omega arith
comp_not_parent iparent e = let z : ◌≡◌ {A = ℕ} 0 1 = cc in omega arith
comp_not_parent (ichild m) e = let z : ◌≡◌ {A = ℕ} 0 1 = cc in omega arith

child_eq : {n m : ℕ} → plain (ichild n) ≡ plain (ichild m) → n ≡ m
child_eq e = cc

parent_not_child : {n : ℕ} → plain iparent ≡ plain (ichild n) → ⊥
parent_not_child e = let z : ◌≡◌ {A = ℕ} 0 1 = cc in omega arith

-- a message that an input in the environment can take has arrived
arrived_there : (w : Wrapper) (σ j : ℕ) (p : SPlace) (c : ℕ) (val : List ℕ) (t : Mark) (x : ℕ) (g : ITag ℕ) (v : Val ℕ) → pout t x (comp (plain g)) v ≡ msg_proc ids w σ j p c val
    → (p ≡ arrived) × (t ≡ lobby σ j) × (x ≡ c) × (g ≡ ichild (own_name σ)) × (v ≡ val_of val)
arrived_there w σ j down c val t x g v q = absurd (comp_not_child g (own_name σ) (ap tag_in q))
arrived_there w σ j arrived c val t x g v q = (refl, ap mark_in q, ap chan_in q, comp_child g (own_name σ) (ap tag_in q), ap val_in q)
arrived_there w σ j leaving c val t x g v q = absurd (comp_not_parent g (ap tag_in q))

-- an arrived message on `mid` of the side that shelves: there is none
no_mid : (sh : Bool) (cs : List ℕ) (k : Counts) (m : Message) → wf_message sh cs k m ≡ true → m.status ≡ arrived → m.chan ≡ 2 → sh ≡ true → ⊥
unfolding wf_message
no_mid sh cs k m w st ch h = false≢true (sym (not-true (sh & eqb m.chan 2) (rw st at (snd _ _ (snd _ _ w)))) ∙ both _ _ h (eq-eqb m.chan 2 ch))

-- of a position other than the one that is set
get_other : {A : Type 0} (l : List A) (i j : ℕ) (y : A) → i ≢ j → get_elem? (set l i y) j ≡ get_elem? l j
get_other [] i j y n = refl
get_other (x ∷ l) zero zero y n = absurd (n refl)
get_other (x ∷ l) zero (suc j) y n = refl
get_other (x ∷ l) (suc i) zero y n = refl
get_other (x ∷ l) (suc i) (suc j) y n = get_other l i j y (λ q. n (ap suc q))

-- THE TRANSITIONS

module _ (b : Composition) (s : State) (e : ready b s ≡ true) (R : Proc Mark []) where
  abbrev Outcome : Step → Type 0
  Outcome k = Met (known_all s) b s tau R k ⊎ ((n : ℕ) × ((step b s k).answer ≡ refusal n k.side) × Excused b s k tau n)

  -- a forwarder has sent on the value of an output that is gone
  sent_on_lem : (cs : List ℕ) (v : Val ℕ) (P Q : Proc Mark []) → received P v ≡ some Q → (X Y X' Y' : List (Item Mark)) → X ++ item 0 pnil ∷ Y ≡ X' ++ item 0 P ∷ Y' → (t : Mark) (x : ℕ) (i : ITag ℕ) (z : ℕ) (o : ITag ℕ)
      → P ≡ forward_with [] t inert cs x i z o → Bag (ritems forget (X' ++ item 0 Q ∷ Y')) (copy_items tt cs v ++ item 0 (pout tt z (plain o) v) ∷ (ritems forget X ++ ritems forget Y))
  sent_on_lem cs v P Q got X Y X' Y' is t x i z o q =
      bag_trans (bag_eq (ap (λ (A : Proc Mark []). ritems forget (X' ++ item 0 A ∷ Y')) (forwarded cs P t x i z o q v Q got)))
      (bag_trans (sent_of (All b s) (conf_of b s).boxes (wf_all b s e) (rooted_all b s e) X' Y' (forward_with [] t inert cs x i z o) cs z o v)
      (bag_app (bag_refl {X = copy_items tt cs v}) (bag_cons (item 0 (pout tt z (plain o) v))
      (bag_trans (bag_eq (ap (ritems forget) (ap (λ (A : Proc Mark []). X' ++ item 0 A ∷ Y') (sym q) ∙ sym is))) (gone_of (All b s) (conf_of b s).boxes (wf_all b s e) (rooted_all b s e) X Y 0)))))

  -- an arrived message on `out` is passed on
  module _ (vw : View b s) (an : Answers b s vw) (j : ℕ) (m : Message) (get : get_elem? vw.core.lobby j ≡ some m) (st : m.status ≡ arrived) (ch : m.chan ≡ 1)
      (vv : Inv b s R tau (joint (lobby vw.c.side j) (passer vw.c.side))) (J : List (Item Mark)) (n : fill (conf_of b s).boxes (at J) ≋ vv.next)
      (bag : Bag (ritems forget J) (target (wrapper_of b) vw.c.side vw.c.table vw.C vw.D vw.core
      (set vw.core.lobby j (record { status = leaving; chan = 1; val = m.val }) ++ copied (wrapper_of b).copies m.val) vw.core.contents.particles)) where
    abbrev moved_on : Moved
    moved_on = passed (wrapper_of b).copies vw.core j m.val

    is_passed : local vw.c (known s) (shelf_of s) vw.core (pass_step vw.c.side j) ≡ done moved_on
    is_passed = pass_local vw.c (known s) (shelf_of s) vw.core vw.c.side j ∙ ap (λ (w : Wrapper). passing w.copies vw.core j) an.wrapper_is
        ∙ passes_there (wrapper_of b).copies vw.core j m get st ch

    passed_met : settled (done moved_on) ≡ done moved_on → Met (known_all s) b s tau R (pass_step vw.c.side j)
    passed_met q = record {
      names = rename_of vv;
      label = subst (λ (r : Result). Says (wrapper_of b) r.answer tau) (sym there) says_tau;
      side = ap (λ (r : Result). answer_side r.answer) there;
      target = subst (λ (t : State). plainly (ren {r = []} R vv.perm.to) ≋ plainly (process (conf_of b t))) (sym (ap (λ (r : Result). r.after) there))
          (silent_target b s e vv J n (vw.next moved_on.core vw.left) (new_same vw moved_on.core refl) (vw.boxes_next moved_on.core vw.left refl)
          (bag_trans bag (bag_eq (sym (vw.items_next moved_on.core vw.left refl refl)))));
    }
      where
        there : step b s (pass_step vw.c.side j) ≡ record { answer = labelled silent vw.c.side []; after = vw.next moved_on.core vw.left }
        there = an.is_done_lem (pass_step vw.c.side j) moved_on refl (ap settled is_passed ∙ q)

    -- the copies have room, or 17
    pass_room : (settled (done moved_on) ≡ done moved_on) ⊎ ((settled (done moved_on) ≡ refuse 17) × (17 ≤ length moved_on.core.lobby)) → Outcome (pass_step vw.c.side j)
    pass_room (inl q) = inl (passed_met q)
    pass_room (inr q) =
        let cause = pass_full {k = pass_step vw.c.side j} refl (subst (λ (c : Core). 17 ≤ length c.lobby + length (wrapper_of b).copies) (sym an.core_is) over) in
        inr (17, an.is_refused_lem (pass_step vw.c.side j) 17 refl (ap settled is_passed ∙ q.0), by_17 cause)
      where
        over : 17 ≤ length vw.core.lobby + length (wrapper_of b).copies
        over = let t : Message = record { status = leaving; chan = 1; val = m.val } in
            omega (arith, q.1, length-append (set vw.core.lobby j t) (copied (wrapper_of b).copies m.val), length-set vw.core.lobby j t, length_copied (wrapper_of b).copies m.val)

    passes_on : Completed b s tau (joint (lobby vw.c.side j) (passer vw.c.side)) R
    passes_on = (
      (pass_step vw.c.side j, pass, pass_silent vw.c.side j),
      λ k atk ask. subst Outcome (sym (passage_step atk vw.c.side j refl)) (pass_room (lobby_put vw.c (counts s) vw.core vw.ok moved_on.core.lobby vw.core.taken moved_on refl)),
    )

  -- a shelf item is taken, by a route
  module _ (k : ℕ) (r : Route) (rg : get_elem? (wrapper_of b).routes k ≡ some r) where
    abbrev σ : ℕ
    σ = r.receiver

    is_side : has_side (wrapper_of b) σ ≡ true
    is_side = receiver_in b k r rg

    found : route_to (wrapper_of b).routes σ r.j ≡ done r
    found = route_found b.wrapper k r rg

    module _ (i : ℕ) (v : List ℕ) (get : get_elem? (shelf_of s r.source) i ≡ some v) (free : is_gone s r.source i ≡ false) where
      abbrev after_take : State
      after_take = took_state b s e σ is_side r.j r found i v

      is_taken_lem : local (setting b σ) (known s) (shelf_of s) (side s σ).core (take_step r i) ≡ done (taken r.source (side s σ).core i v)
      is_taken_lem = take_local (setting b σ) (known s) (shelf_of s) (side s σ).core r i found
          ∙ takes_there r.source (shelf_of s r.source) (side s σ).core i v get (not_taken s σ r.source i (pos b s e σ is_side) (lt b s e σ is_side) free)

      module _ (vv : Inv b s R tau (joint (shelf r.source i) (taker r.source σ))) (J : List (Item Mark)) (n : fill (conf_of b s).boxes (at J) ≋ vv.next) (bag : Bag (ritems forget J) (ritems forget (conf_of b after_take).items)) where
        abbrev moved : Moved
        moved = taken r.source (side s σ).core i v

        taken_met : settled (done moved) ≡ done moved → Met (known_all s) b s tau R (take_step r i)
        taken_met st = record {
          names = rename_of vv;
          label = subst (λ (r : Result). Says (wrapper_of b) r.answer tau) (sym there) says_tau;
          side = ap (λ (r : Result). answer_side r.answer) there;
          target = subst (λ (t : State). plainly (ren {r = []} R vv.perm.to) ≋ plainly (process (conf_of b t))) (sym (ap (λ (r : Result). r.after) there))
              (silent_target b s e vv J n after_take (same_new b s e σ is_side r.j r found i v get) (same_boxes b s e σ is_side r.j r found i v get) bag);
        }
          where
            there : step b s (take_step r i) ≡ record { answer = labelled silent σ []; after = after_take }
            there = step_is b s e σ is_side (take_step r i) (done moved) refl (ap settled is_taken_lem ∙ st)

        in_room : (settled (done moved) ≡ done moved) ⊎ ((settled (done moved) ≡ refuse 17) × (17 ≤ length moved.core.lobby)) → Outcome (take_step r i)
        in_room (inl st) = inl (taken_met st)
        in_room (inr q) =
            let refused = ap (λ (y : Result). y.answer) (step_is b s e σ is_side (take_step r i) (refuse 17) refl (ap settled is_taken_lem ∙ q.0)) in
            let over : 16 ≤ length (side s σ).core.lobby = omega (arith, q.1, length-append (side s σ).core.lobby (record { status = down; chan = 2; val = v } ∷ [])) in
            inr (17, refused, by_17 (take_full {k = take_step r i} refl over))

        takes_on : Completed b s tau (joint (shelf r.source i) (taker r.source σ)) R
        takes_on = (
          (take_step r i, take k rg, take_silent r i),
          λ x atx ask. subst Outcome (sym (taking_step b.wrapper atx k r rg i refl))
              (in_room (lobby_put (setting b σ) (counts s) (side s σ).core (side_ok b s e σ is_side) moved.core.lobby (set (side s σ).core.taken (taken_at r.source i) true) moved refl)),
        )

  -- an output and an input in the environment
  module _ {t u : Mark} (vv : Inv b s R tau (joint t u)) (x : ℕ) (g : ITag ℕ) (v : Val ℕ) (P Q : Proc Mark []) (mark : u ≡ mark_in P) (chan : x ≡ chan_in P) (tag : plain g ≡ tag_in P) (got : received P v ≡ some Q)
      (X Y X' Y' : List (Item Mark)) (is : X ++ item 0 pnil ∷ Y ≡ X' ++ item 0 P ∷ Y') (n : fill (conf_of b s).boxes (at (X' ++ item 0 Q ∷ Y')) ≋ vv.next) where
    -- a message and a side's forwarder
    lobby_pass : (vw : View b s) (an : Answers b s vw) (j : ℕ) (m : Message) → get_elem? vw.core.lobby j ≡ some m → m.status ≡ arrived → t ≡ lobby vw.c.side j → x ≡ m.chan → v ≡ val_of m.val
        → ((n : Message) → ritems forget X ++ plain_m (wrapper_of b) vw.c.side n ∷ ritems forget Y ≡ target (wrapper_of b) vw.c.side vw.c.table vw.C vw.D vw.core (set vw.core.lobby j n) vw.core.contents.particles)
        → P ≡ (passing-item ids (wrapper_of b) vw.c.side).what → Completed b s tau (joint t u) R
    lobby_pass vw an j m get st et ex ev put q =
        let who : joint t u ≡ joint (lobby vw.c.side j) (passer vw.c.side) = ap₂ joint et (mark ∙ ap mark_in q) in
        subst (λ (y : Participants Mark). Completed b s tau y R) (sym who)
        (passes_on vw an j m get st (sym ex ∙ chan ∙ ap chan_in q) (inv_at who vv) (X' ++ item 0 Q ∷ Y') n
        (bag_trans (sent_on_lem cs v P Q got X Y X' Y' is (passer vw.c.side) 1 (ichild (own_name vw.c.side)) ((wrapper_of b).outlet vw.c.side) iparent q)
        (bag_trans (bag_eq (ap (λ (y : Val ℕ). copy_items tt cs y ++ item 0 (pout tt ((wrapper_of b).outlet vw.c.side) (plain iparent) y) ∷ (ritems forget X ++ ritems forget Y)) ev))
        (bag_trans (bag_app (bag_eq (sym (copied_items (wrapper_of b) vw.c.side vw.c.table vw.C vw.D vw.core cs m.val (copies_log b.wrapper))))
        (bag_trans (bag_sym (bag_mid (ritems forget X) (plain_m (wrapper_of b) vw.c.side turned) (ritems forget Y))) (bag_eq (put turned))))
        (add_msgs (wrapper_of b) vw.c.side vw.c.table vw.C vw.D vw.core (set vw.core.lobby j turned) (copied cs m.val) vw.core.contents.particles)))))
      where
        cs : List ℕ
        cs = (wrapper_of b).copies

        turned : Message
        turned = record { status = leaving; chan = 1; val = m.val }

    -- a message
    by_message : (vw : View b s) (an : Answers b s vw) (j : ℕ) (m : Message) → get_elem? vw.core.lobby j ≡ some m → item 0 (pout t x (comp (plain g)) v) ≡ msg_item ids (wrapper_of b) vw.c.side j m
        → ((n : Message) → ritems forget X ++ plain_m (wrapper_of b) vw.c.side n ∷ ritems forget Y ≡ target (wrapper_of b) vw.c.side vw.c.table vw.C vw.D vw.core (set vw.core.lobby j n) vw.core.contents.particles)
        → Input b s P → Completed b s tau (joint t u) R
    by_message vw an j m get ism put inp =
        let r = arrived_there (wrapper_of b) vw.c.side j m.status m.chan m.val t x g v (what_eq ism) in
        go r.0 r.1 r.2 (ap plain r.3) r.4 inp
      where
        go : m.status ≡ arrived → t ≡ lobby vw.c.side j → x ≡ m.chan → plain g ≡ plain (ichild (own_name vw.c.side)) → v ≡ val_of m.val → Input b s P → Completed b s tau (joint t u) R
        go st et ex eg ev (enters_of vw' an' q) = absurd (parent_not_child (sym (ap tag_in q) ∙ sym tag ∙ eg))
        go st et ex eg ev (passes_of vw' an' q) =
            let own : own_name vw.c.side ≡ own_name vw'.c.side = child_eq (sym eg ∙ tag ∙ ap tag_in q) in
            lobby_pass vw an j m get st et ex ev put (q ∙ ap (λ (y : ℕ). (passing-item ids (wrapper_of b) y).what) (omega arith))
        go st et ex eg ev (takes_of k r rg q) =
            let own : own_name vw.c.side ≡ own_name r.source = child_eq (sym eg ∙ tag ∙ ap tag_in q) in
            let sh : shelves vw.c.wrapper vw.c.side ≡ true = ap₂ (λ (w : Wrapper) (y : ℕ). shelves w y) an.wrapper_is (omega arith) ∙ source_shelves (wrapper_of b) k r rg in
            absurd (no_mid (shelves vw.c.wrapper vw.c.side) vw.c.wrapper.copies (counts s) m (get_every (wf_in vw.c (counts s)) vw.core.lobby j m vw.ok.lobby get) st (sym ex ∙ chan ∙ ap chan_in q) sh)

    -- an item of a shelf, and a route from there
    module _ (k : ℕ) (r : Route) (rg : get_elem? (wrapper_of b).routes k ≡ some r) (q : P ≡ (taking-item ids r).what) where
      abbrev source_side : has_side (wrapper_of b) r.source ≡ true
      source_side = hm b s e r.receiver (is_side k r rg) r.j r (found k r rg)

      taken_from : (X1 Y1 : List (Item Mark)) → shelf_on b s r.source ≡ X1 ++ item 0 (pout t x (comp (plain g)) v) ∷ Y1
          → X ≡ forwarders ids (wrapper_of b) ++ (by_side (shelf_on b s) (at_side b s r.source source_side).X ++ X1)
          → Y ≡ Y1 ++ (by_side (shelf_on b s) (at_side b s r.source source_side).Y ++ by_side (own_of b s) (wrapper_of b).sides)
          → ShelfAt (is_gone s r.source) r.source 0 (shelf_of s r.source) X1 (item 0 (pout t x (comp (plain g)) v)) Y1 → Completed b s tau (joint t u) R
      unfolding F
      taken_from X1 Y1 sp ex ey a =
          let m = r.source in
          let σ = r.receiver in
          let h = is_side k r rg in
          let fr = found k r rg in
          let at0 : 0 + a.j ≡ a.j = omega arith in
          let on : OnShelf (is_gone s m) (is_gone (took_state b s e σ h r.j r fr a.j a.v) m) m 0 (shelf_of s m) a.j a.v = record {
            P = X1;
            Q = Y1;
            is = sp ∙ ap (λ (z : Item Mark). X1 ++ z ∷ Y1) a.is;
            gone_is = a.left _ (gone_here b s e σ h r.j r fr a.j a.v a.get) (gone_rest b s e σ h r.j r fr a.j a.v a.get);
          } in
          let who : joint t u ≡ joint (shelf m a.j) (taker m σ) = ap₂ joint (ap mark_in (what_eq a.is) ∙ ap (shelf m) at0) (mark ∙ ap mark_in q) in
          subst (λ (y : Participants Mark). Completed b s tau y R) (sym who)
          (takes_on k r rg a.j a.v a.get (subst (λ (z : ℕ). is_gone s m z ≡ false) at0 a.free) (inv_at who vv) (X' ++ item 0 Q ∷ Y') n
          (bag_trans (sent_on_lem [] v P Q got X Y X' Y' is (taker m σ) 2 (ichild (own_name m)) 2 (ichild (own_name σ)) q)
          (bag_trans (bag_eq (ap₂ (λ (y : Val ℕ) (z : List (Item (Unit {0}))). item 0 (pout tt 2 (plain (ichild (own_name σ))) y) ∷ z) (ap val_in (what_eq a.is))
          (sym (ritems_app forget X Y)
          ∙ ap (ritems forget) (ap₂ (λ (y z : List (Item Mark)). y ++ z) ex ey
          ∙ regroup (forwarders ids (wrapper_of b)) (by_side (shelf_on b s) (at_side b s r.source source_side).X) X1 Y1 (by_side (shelf_on b s) (at_side b s r.source source_side).Y)
          (by_side (own_of b s) (wrapper_of b).sides) (own_now b s e σ h)))))
          (taken_bag b s e σ h r.j r fr a.j a.v a.get on))))
        where
          regroup : (f x p q y o : List (Item Mark)) {o' : List (Item Mark)} → o ≡ o' → (f ++ (x ++ p)) ++ (q ++ (y ++ o)) ≡ f ++ ((x ++ ((p ++ q) ++ y)) ++ o')
          regroup f x p q y o {o'} w = shuffle o ∙ ap (λ (z : List (Item Mark)). f ++ ((x ++ ((p ++ q) ++ y)) ++ z)) w
            where
              shuffle : (o : List (Item Mark)) → (f ++ (x ++ p)) ++ (q ++ (y ++ o)) ≡ f ++ ((x ++ ((p ++ q) ++ y)) ++ o)
              shuffle o = simp append_assoc

      -- at the source, however it is known to be a side
      shelf_take : (h : has_side (wrapper_of b) r.source ≡ true) (X1 Y1 : List (Item Mark)) → shelf_on b s r.source ≡ X1 ++ item 0 (pout t x (comp (plain g)) v) ∷ Y1
          → X ≡ forwarders ids (wrapper_of b) ++ (by_side (shelf_on b s) (at_side b s r.source h).X ++ X1)
          → Y ≡ Y1 ++ (by_side (shelf_on b s) (at_side b s r.source h).Y ++ by_side (own_of b s) (wrapper_of b).sides) → Completed b s tau (joint t u) R
      shelf_take h X1 Y1 sp ex ey =
          let same : h ≡ source_side = Bool-set (has_side (wrapper_of b) r.source) true h source_side in
          taken_from X1 Y1 sp (subst (λ (z : has_side (wrapper_of b) r.source ≡ true). X ≡ forwarders ids (wrapper_of b) ++ (by_side (shelf_on b s) (at_side b s r.source z).X ++ X1)) same ex)
          (subst (λ (z : has_side (wrapper_of b) r.source ≡ true). Y ≡ Y1 ++ (by_side (shelf_on b s) (at_side b s r.source z).Y ++ by_side (own_of b s) (wrapper_of b).sides)) same ey)
          (shelf_at_lem (is_gone s r.source) r.source 0 (shelf_of s r.source) X1 (item 0 (pout t x (comp (plain g)) v)) Y1 sp)

    by_shelf : (m : ℕ) (h : has_side (wrapper_of b) m ≡ true) (X1 Y1 : List (Item Mark)) → shelf_on b s m ≡ X1 ++ item 0 (pout t x (comp (plain g)) v) ∷ Y1
        → X ≡ forwarders ids (wrapper_of b) ++ (by_side (shelf_on b s) (at_side b s m h).X ++ X1) → Y ≡ Y1 ++ (by_side (shelf_on b s) (at_side b s m h).Y ++ by_side (own_of b s) (wrapper_of b).sides) →
        Input b s P → Completed b s tau (joint t u) R
    by_shelf m h X1 Y1 sp ex ey inp = go (shelf_at_lem (is_gone s m) m 0 (side s m).core.shelf X1 (item 0 (pout t x (comp (plain g)) v)) Y1 sp) inp
      where
        go : ShelfAt (is_gone s m) m 0 (side s m).core.shelf X1 (item 0 (pout t x (comp (plain g)) v)) Y1 → Input b s P → Completed b s tau (joint t u) R
        go a (enters_of vw an q) = absurd (parent_not_child (sym (ap tag_in q) ∙ sym tag ∙ ap plain (comp_child g (own_name m) (ap tag_in (what_eq a.is)))))
        go a (passes_of vw an q) = let z : ◌≡◌ {A = ℕ} 1 2 = sym (ap chan_in q) ∙ sym chan ∙ ap chan_in (what_eq a.is) in absurd (omega arith)
        go a (takes_of k r rg q) =
            let own : own_name r.source ≡ own_name m = child_eq (sym (ap tag_in q) ∙ sym tag ∙ ap plain (comp_child g (own_name m) (ap tag_in (what_eq a.is)))) in
            let src : r.source ≡ m = omega arith in
            subst (λ (z : ℕ). (h : has_side (wrapper_of b) z ≡ true) → shelf_on b s z ≡ X1 ++ item 0 (pout t x (comp (plain g)) v) ∷ Y1
            → X ≡ forwarders ids (wrapper_of b) ++ (by_side (shelf_on b s) (at_side b s z h).X ++ X1) → Y ≡ Y1 ++ (by_side (shelf_on b s) (at_side b s z h).Y ++ by_side (own_of b s) (wrapper_of b).sides) → Completed b s tau (joint t u) R)
            src (λ h sp ex ey. shelf_take k r rg q h X1 Y1 sp ex ey) h sp ex ey

    by_output : Sent b s X (pout t x (comp (plain g)) v) Y → Input b s P → Completed b s tau (joint t u) R
    by_output (of_lobby vw an j m get ism gone put) inp = by_message vw an j m get ism put inp
    by_output (of_shelf m h X1 Y1 sp ex ey) inp = by_shelf m h X1 Y1 sp ex ey inp

  -- COMPLETE, for the silent transitions between an output and an input in the environment
  pub complete_forward : {t u : Mark} (vv : Inv b s R tau (joint t u)) (i j : ℕ) (x : ℕ) (g : ITag ℕ) (v : Val ℕ) (m : Mode) (p : Pat) (P : Proc Mark (p ∷ [])) (σ : Vars p → Val ℕ) → i ≢ j
      → get_elem? (select (conf_of b s).items 0) i ≡ some (pout t x (comp (plain g)) v) → get_elem? (select (conf_of b s).items 0) j ≡ some (pinp m u x g p P) → match p v ≡ some σ → InstOk P σ
      → fill (conf_of b s).boxes (upd (λ k. parallel (select (conf_of b s).items k)) 0 (parallel (set (set (select (conf_of b s).items 0) i pnil) j (after m u x g p P σ)))) ≋ vv.next → Completed b s tau (joint t u) R
  complete_forward {t} {u} vv i j x g v m p P σ ne out_at in-at fits ok eq =
      let a = item_at (conf_of b s).items 0 i (pout t x (comp (plain g)) v) out_at in
      let d = item_at (conf_of b s).items 0 j (pinp m u x g p P) in-at in
      let c = item_at (a.X ++ item 0 pnil ∷ a.Y) 0 j (pinp m u x g p P) (ap (λ (l : List (Proc Mark [])). get_elem? l j) (sym (a.put pnil)) ∙ get_other (select (conf_of b s).items 0) i j pnil ne ∙ in-at) in
      by_output vv x g v (pinp m u x g p P) (after m u x g p P σ) refl refl refl (ap (on_some (λ (σ : Vars p → Val ℕ). after m u x g p P σ)) fits) a.X a.Y c.X c.Y c.is
      (trans (symm (two_changed (conf_of b s).boxes (conf_of b s).items 0 i j (pout t x (comp (plain g)) v) pnil (pinp m u x g p P) (after m u x g p P σ) a c)) eq)
      (output_is b s e a.X a.Y (pout t x (comp (plain g)) v) a.is refl) (input_is b s e d.X d.Y (pinp m u x g p P) d.is refl)
