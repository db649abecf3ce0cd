-- A side's own steps, each with its transition. The meeting is handed in.
use mathlib.Core.Path.{◌≡◌, refl, sym, ap, ◌∙◌, subst}
use mathlib.Core.Bool.{Bool, true, false, cond, false≢true}
use mathlib.Core.List.{List, [], ◌∷◌, ◌++◌}
use mathlib.Core.Logic.{⊎_elim}
use mathlib.Core.Option.{some}
use Prim.Native.Nat.{ℕ, ◌<◌}
use native.Mathlib.Omega.{arith}
use borrow.Author.Tests.{leb-true, eqb-true}
use lib.Dec.{leb, eqb}
use lib.ListN.{length, get_elem?, length-append}
use Rattle.calculus.specs.Syntax.{plain}
use Rattle.calculus.specs.Syntax.{parent as iparent}
use Rattle.calculus.specs.Transitions.{Label, tau, send, recv, Participants, lone, joint}
use Rattle.calculus.specs.Tree.{Item}
use Rattle.model.specs.Basics.{◌or◌, done, has, remove}
use Rattle.model.specs.Values.{is_value}
use Rattle.model.specs.Side.{Message, Core, State, down, leaving, limits}
use Rattle.model.specs.Wrapper.{Route}
use Rattle.model.specs.Load.{Composition, Setting, wrapper_of}
use Rattle.model.specs.WellFormed.{counts, shelf_of, wf_message, wf_value, ready}
use Rattle.model.specs.Step.{Step, Moved, silent, leaves, logs, leaving_on, is_leaving, copied, labelled, marks, mark_all, known, local, route_to, takes, inner, meet, enter}
use Rattle.model.specs.Process.{Mark, part, boxed, lobby, enterer, passer, inert, leaves_as, is_gone, val_of, conf_of}
use Rattle.model.specs.Agreement.{At, Asks, asks_in, asks_out, asks_tau}
use Rattle.calculus.proofs.Trees.{Reach}
use Rattle.calculus.proofs.Bags.{bag_eq}
use Rattle.model.proofs.Basics.Tests.{fst, snd, alt, has_every, need_done, choose_done, bind_done, get_every}
use Rattle.model.proofs.Formed.Growing.{wf_in}
use Rattle.model.proofs.Formed.Keeping.{is_log, left_on, shaped_words}
use Rattle.model.proofs.Formed.Invariant.{copies_log}
use Rattle.model.proofs.Basics.Items.{clash, shaped_items}
use Rattle.model.proofs.Processes.ValueWords.{val_written}
use Rattle.model.proofs.Processes.KnownNames.{All}
use Rattle.model.proofs.Processes.ItemFacts.{Each}
use Rattle.model.proofs.Processes.StateTree.{few, items_each, root_boxes, outlet_low, inlet_low}
use Rattle.model.proofs.Sound.ItemMoves.{ids, Moves, moves_to, whole, target}
use Rattle.model.proofs.Sound.StateMoves.{Goes, goes, goes_silent, goes_out, wf_all, rooted_all}
use Rattle.model.proofs.Sound.NamesLeaving.{new_left}
use Rattle.model.proofs.Sound.NamesEntering.{enter_fresh}
use Rattle.model.proofs.Sound.SideViews.{View, new_same}
use Rattle.model.proofs.Sound.Labels.{SaysInv, left_inv, label_val, empty_words, at_enter, at_down, at_up, at_descend, at_meet, at_pass, at_leave}
use Rattle.model.proofs.Sound.SideMoves.{Quiet, Up, quiet, shelved, up_zero, down_quiet, up_moves, descend_quiet, pass_quiet, leave_moves, enter_moves}

-- the marks after a message has left, on `out` or as a copy
pub left_marks : (c : ℕ) (v : List ℕ) (l : List Bool) → marks (leaving_on c) v l ≡ mark_all l v
left_marks c v l = go (eqb c 1)
  where
    go : (t : Bool) → marks (cond t leaves logs) v l ≡ mark_all l v
    go true = refl
    go false = refl

-- the channel of a leaving message, by the wrapper's copies
pub left_here : {b : Composition} {s : State} (vw : View b s) (n : Message) → n.status ≡ leaving → wf_in vw.c (counts s) n ≡ true → eqb n.chan 1 or has n.chan (wrapper_of b).copies ≡ true
left_here {s = s} vw n st h = ap (λ (z : Setting). eqb n.chan 1 or has n.chan z.wrapper.copies) (sym vw.c_is) ∙ left_on vw.c (counts s) n (ap is_leaving st) h

module _ (b : Composition) (s : State) (e : ready b s ≡ true) where
  pub root_all : Reach (conf_of b s).boxes 0
  root_all = root_boxes b s e ids

  module _ (vw : View b s) where
    abbrev pub after : Moved → State
    after m = vw.next m.core (marks m.label m.val vw.left)

    pub each_now : Each (All b s) (whole (wrapper_of b) vw.c.side vw.c.table vw.C vw.D vw.core)
    each_now = subst (λ (I : List (Item Mark)). Each (All b s) I) vw.items_now (items_each b s e ids)

    abbrev pub Qt : Participants Mark → Moved → Type 0
    Qt who m = Quiet (All b s) (conf_of b s).boxes (wf_all b s e) (rooted_all b s e) root_all (wrapper_of b) vw.c vw.C vw.D vw.core each_now vw.ok.contents.box0 vw.has who m

    now : {l : Label} {who : Participants Mark} {t : List (Item (Unit {0}))} →
        Moves (All b s) (conf_of b s).boxes (whole (wrapper_of b) vw.c.side vw.c.table vw.C vw.D vw.core) l who t → Moves (All b s) (conf_of b s).boxes (conf_of b s).items l who t
    now {l} {who} {t} m = subst (λ (I : List (Item Mark)). Moves (All b s) (conf_of b s).boxes I l who t) (sym vw.items_now) m

    marks_silent : (m : Moved) → m.label ≡ silent → marks m.label m.val vw.left ≡ vw.left
    marks_silent m q = ap (λ (y : Rattle.model.specs.Step.Label). marks y m.val vw.left) q

    pub quiet_goes : {who : Participants Mark} {m : Moved} → Qt who m → Goes b s (after m) tau who
    quiet_goes {who} {m} q = subst (λ (l : List Bool). Goes b s (vw.next m.core l) tau who) (sym (marks_silent m q.label))
        (goes_silent b s e (vw.next m.core vw.left) (new_same vw m.core q.minted) (vw.boxes_next m.core vw.left q.boxes)
        (moves_to (now q.moves) (bag_eq (sym (vw.items_next m.core vw.left q.shelf_same q.taken)))))

    -- a step with its transition
    unfoldable pub Done : Step → Label → Moved → Type 0
    Done x l m = (w : Participants Mark) × At (wrapper_of b) x w × Asks x l × Goes b s (after m) l w

    silent_done : (x : Step) (l : Label) (m : Moved) (who : Participants Mark) → At (wrapper_of b) x who → (x.kind ≡ 1 → ⊥) → (x.kind ≡ 7 → ⊥) → m.label ≡ silent →
        SaysInv (wrapper_of b) (labelled m.label vw.c.side m.val) l → Goes b s (after m) tau who → Done x l m
    unfolding Done
    silent_done x l m who a k1 k7 q sy g =
        let lt : l ≡ tau = subst (λ (y : Rattle.model.specs.Step.Label). SaysInv (wrapper_of b) (labelled y vw.c.side m.val) l) q sy in
        subst (λ (y : Label). (w : Participants Mark) × At (wrapper_of b) x w × Asks x y × Goes b s (after m) y w) (sym lt) (who, a, asks_tau k1 k7, g)

    not_kind : (x : Step) (κ n : ℕ) → x.kind ≡ κ → (κ ≡ n → ⊥) → x.kind ≡ n → ⊥
    not_kind x κ n p h q = h (sym p ∙ q)

    pub outwards_low : (wrapper_of b).outlet vw.c.side < 81
    outwards_low = outlet_low b s e vw.c.side vw.is_side

    -- and so is the name of the channel on which a message leaves
    pub left_low : (c : ℕ) → eqb c 1 or has c (wrapper_of b).copies ≡ true → leaves_as (wrapper_of b) vw.c.side c < 81
    left_low c h = go (eqb c 1) h
      where
        go : (t : Bool) → t or has c (wrapper_of b).copies ≡ true → cond t ((wrapper_of b).outlet vw.c.side) c < 81
        go true h = outwards_low
        go false h = let q = eqb-true c 3 (has_every is_log (wrapper_of b).copies c (copies_log b.wrapper) (⊎_elim (λ p. absurd (false≢true p)) (λ p. p) (alt _ _ h))) in omega arith

    pub inwards_low : (wrapper_of b).inlet vw.c.side < 81
    inwards_low = inlet_low b s e vw.c.side vw.is_side

    leave_done : (x : Step) (l : Label) (m : Moved) → x.kind ≡ 7 → x.side ≡ vw.c.side → x.j ≡ 0 → x.words ≡ [] → Rattle.model.specs.Step.leave vw.core x.i ≡ done m
        → SaysInv (wrapper_of b) (labelled m.label vw.c.side m.val) l → Done x l m
    unfolding Done wf_message wf_value is_value
    leave_done x l m k7 sd j0 ws lv sy =
        let r = leave_moves (All b s) (conf_of b s).boxes (wf_all b s e) (rooted_all b s e) root_all (wrapper_of b) vw.c vw.C vw.D vw.core each_now vw.ok.contents.box0 vw.has x.i m lv in
        go r.0 r.1 r.2 r.3 r.4
      where
        go : (n : Message) → get_elem? vw.core.lobby x.i ≡ some n
            → Moves (All b s) (conf_of b s).boxes (whole (wrapper_of b) vw.c.side vw.c.table vw.C vw.D vw.core)
            (send (leaves_as (wrapper_of b) vw.c.side n.chan) (plain iparent) (val_of n.val)) (lone (lobby vw.c.side x.i))
            (target (wrapper_of b) vw.c.side vw.c.table vw.C vw.D vw.core (remove vw.core.lobby x.i) vw.core.contents.particles)
            → n.status ≡ leaving → m ≡ record { label = leaving_on n.chan; val = n.val; core = record { contents = vw.core.contents; lobby = remove vw.core.lobby x.i; shelf = vw.core.shelf; taken = vw.core.taken } } →
            (w : Participants Mark) × At (wrapper_of b) x w × Asks x l × Goes b s (after m) l w
        go n g mv st em =
            let ch = leaves_as (wrapper_of b) vw.c.side n.chan in
            let k : Core = record { contents = vw.core.contents; lobby = remove vw.core.lobby x.i; shelf = vw.core.shelf; taken = vw.core.taken } in
            let wm = get_every (wf_in vw.c (counts s)) vw.core.lobby x.i n vw.ok.lobby g in
            let wv = fst _ _ wm in
            let on = left_here vw n st wm in
            let sv = left_inv (wrapper_of b) (copies_log b.wrapper) vw.c.side n.chan on n.val l (subst (λ (y : Moved). SaysInv (wrapper_of b) (labelled y.label vw.c.side y.val) l) em sy) in
            let sh = snd _ _ (fst _ _ wv) in
            let words = shaped_words n.val sh in
            let vv : val_of n.val ≡ sv.0 = label_val n.val sv.0 words sv.1 sv.2 in
            let gg : Goes b s (vw.next k (mark_all vw.left n.val)) (send ch (plain iparent) (val_of n.val)) (lone (lobby vw.c.side x.i)) =
            goes_out b s e (vw.next k (mark_all vw.left n.val))
            (new_left b s (vw.next k (mark_all vw.left n.val)) ch n.val (few b s e) (left_low n.chan on) (shaped_items n.val sh) words
            (vw.minted_next k (mark_all vw.left n.val) refl) (vw.known_next k n.val))
            (vw.boxes_next k (mark_all vw.left n.val) refl)
            (moves_to (now mv) (bag_eq (sym (vw.items_next k (mark_all vw.left n.val) refl refl)))) in
            subst (λ (y : Moved). (w : Participants Mark) × At (wrapper_of b) x w × Asks x l × Goes b s (after y) l w) (sym em)
            (subst (λ (q : List Bool). (w : Participants Mark) × At (wrapper_of b) x w × Asks x l × Goes b s (vw.next k q) l w) (sym (left_marks n.chan n.val vw.left))
            (subst (λ (y : Label). (w : Participants Mark) × At (wrapper_of b) x w × Asks x y × Goes b s (vw.next k (mark_all vw.left n.val)) y w) (ap (send ch (plain iparent)) vv ∙ sym sv.3)
            (lone (lobby vw.c.side x.i), at_leave (wrapper_of b) x vw.c.side k7 sd j0 ws, asks_out k7, gg)))

    enter_done : (x : Step) (l : Label) (m : Moved) → x.kind ≡ 1 → x.side ≡ vw.c.side → x.i ≡ 0 → x.j ≡ 0 → enter (wrapper_of b).copies (known s) vw.core x.words ≡ done m
        → SaysInv (wrapper_of b) (labelled m.label vw.c.side m.val) l → Done x l m
    unfolding Done is_value
    enter_done x l m k1 sd i0 j0 en sy =
        let ws = x.words in
        let r = enter_moves (All b s) (conf_of b s).boxes (wf_all b s e) (rooted_all b s e) root_all (wrapper_of b) vw.c vw.C vw.D vw.core each_now vw.ok.contents.box0 vw.has
        (copies_log b.wrapper) vw.E1 vw.E2 vw.at_enter (known s) ws m inert en in
        let k : Core = record { contents = vw.core.contents; lobby = vw.core.lobby ++ (copied (wrapper_of b).copies ws ++ record { status = down; chan = 0; val = ws } ∷ []); shelf = vw.core.shelf; taken = vw.core.taken } in
        let sv = subst (λ (y : Moved). SaysInv (wrapper_of b) (labelled y.label vw.c.side y.val) l) r.3 sy in
        let sh = snd _ _ r.1 in
        let words = shaped_words ws sh in
        let vv : val_of ws ≡ sv.0 = label_val ws sv.0 words sv.1 sv.2 in
        let gg : Goes b s (vw.next k vw.left) (recv ((wrapper_of b).inlet vw.c.side) (plain iparent) (val_of ws)) (joint inert (enterer vw.c.side)) =
        goes b s e (vw.next k vw.left) (enter_fresh b s (few b s e) ws ((wrapper_of b).inlet vw.c.side) inwards_low (shaped_items ws sh) words r.2)
        (new_same vw k refl) (vw.boxes_next k vw.left refl) (moves_to (now r.0) (bag_eq (sym (vw.items_next k vw.left refl refl)))) in
        subst (λ (y : Moved). (w : Participants Mark) × At (wrapper_of b) x w × Asks x l × Goes b s (after y) l w) (sym r.3)
        (subst (λ (y : Label). (w : Participants Mark) × At (wrapper_of b) x w × Asks x y × Goes b s (vw.next k vw.left) y w) (ap (recv ((wrapper_of b).inlet vw.c.side) (plain iparent)) vv ∙ sym sv.3)
        (joint inert (enterer vw.c.side), at_enter (wrapper_of b) x vw.c.side inert k1 sd i0 j0, asks_in k1 (sym (val_written ws (shaped_items ws sh))), gg))

    up_done : (x : Step) (l : Label) (m : Moved) → limits m.core ≡ true → x.kind ≡ 3 → x.side ≡ vw.c.side → x.j ≡ 0 → x.words ≡ []
        → Up (All b s) (conf_of b s).boxes (wf_all b s e) (rooted_all b s e) root_all (wrapper_of b) vw.c vw.C vw.D vw.core each_now vw.ok.contents.box0 vw.has x.i m
        → SaysInv (wrapper_of b) (labelled m.label vw.c.side m.val) l → Done x l m
    unfolding limits
    up_done x l m lim k3 sd j0 ws (quiet q) sy = silent_done x l m (lone (part vw.c.side x.i)) (at_up (wrapper_of b) x vw.c.side k3 sd j0 ws) (not_kind x 3 1 k3 (λ z. omega arith))
        (not_kind x 3 7 k3 (λ z. omega arith)) q.label sy (quiet_goes q)
    up_done x l m lim k3 sd j0 ws (shelved g v st get tp em) sy =
        silent_done x l m (lone (part vw.c.side x.i)) (at_up (wrapper_of b) x vw.c.side k3 sd j0 ws) (not_kind x 3 1 k3 (λ z. omega arith)) (not_kind x 3 7 k3 (λ z. omega arith)) (ap (λ (y : Moved). y.label) em) sy
        (subst (λ (y : Moved). Goes b s (after y) tau (lone (part vw.c.side x.i))) (sym em)
        (goes_silent b s e (vw.next k vw.left) (new_same vw k refl) (vw.boxes_next k vw.left refl)
        (moves_to (now (up_zero (All b s) (conf_of b s).boxes (wf_all b s e) (rooted_all b s e) root_all (wrapper_of b) vw.c vw.C vw.D vw.core each_now vw.ok.contents.box0 vw.has x.i 2 g v get tp))
        (vw.shelve k vw.left v refl refl (free (subst (λ (y : Moved). limits y.core ≡ true) em lim))))))
      where
        room : (h : List (List ℕ)) (v : List ℕ) → leb (length (h ++ (v ∷ []))) 32 ≡ true → length h < 32
        room h v q = omega (arith, leb-true (length (h ++ (v ∷ []))) 32 q, length-append h (v ∷ []))

        free : limits (record {
          contents = record { particles = remove vw.core.contents.particles x.i; boxes = vw.core.contents.boxes; minted = vw.core.contents.minted };
          lobby = vw.core.lobby;
          shelf = vw.core.shelf ++ (v ∷ []);
          taken = vw.core.taken;
        }) ≡ true → is_gone s vw.c.side (length vw.core.shelf) ≡ false
        free q = vw.free (room vw.core.shelf v (snd _ _ (snd _ _ q)))

        k : Core
        k = record {
          contents = record { particles = remove vw.core.contents.particles x.i; boxes = vw.core.contents.boxes; minted = vw.core.contents.minted };
          lobby = vw.core.lobby;
          shelf = vw.core.shelf ++ (v ∷ []);
          taken = vw.core.taken;
        }

    module _ (meeting : (i j : ℕ) (m : Moved) → meet vw.c vw.core i j ≡ done m → limits m.core ≡ true → (m.label ≡ silent) × Goes b s (after m) tau (joint (part vw.c.side i) (part vw.c.side j))) where
      inner_done : (x : Step) (l : Label) (m : Moved) → x.side ≡ vw.c.side → inner vw.c vw.core x ≡ done m → limits m.core ≡ true → SaysInv (wrapper_of b) (labelled m.label vw.c.side m.val) l → Done x l m
      unfolding inner
      inner_done x l m sd i lim sy =
          let a = need_done _ _ _ _ i in
          let ws = empty_words x.words a.0 in
          ⊎_elim (λ p. let k4 = eqb-true x.kind 4 p.0 in
          let q = descend_quiet (All b s) (conf_of b s).boxes (wf_all b s e) (rooted_all b s e) root_all (wrapper_of b) vw.c vw.C vw.D vw.core each_now vw.ok.contents.box0 vw.has x.i x.j m p.1 in
          silent_done x l m (joint (part vw.c.side x.i) (boxed vw.c.side x.j)) (at_descend (wrapper_of b) x vw.c.side k4 sd ws) (not_kind x 4 1 k4 (λ z. omega arith))
          (not_kind x 4 7 k4 (λ z. omega arith)) q.label sy (quiet_goes q)) (λ p.
          ⊎_elim (λ p. let k5 = eqb-true x.kind 5 p.0 in let q = meeting x.i x.j m p.1 lim in
          silent_done x l m (joint (part vw.c.side x.i) (part vw.c.side x.j)) (at_meet (wrapper_of b) x vw.c.side k5 sd ws) (not_kind x 5 1 k5 (λ z. omega arith))
          (not_kind x 5 7 k5 (λ z. omega arith)) q.0 sy q.1) (λ p. let d = need_done _ _ _ _ p.1 in let j0 = eqb-true x.j 0 d.0 in
          ⊎_elim (λ p. let k2 = eqb-true x.kind 2 p.0 in
          let q = down_quiet (All b s) (conf_of b s).boxes (wf_all b s e) (rooted_all b s e) root_all (wrapper_of b) vw.c vw.C vw.D vw.core each_now vw.ok.contents.box0 vw.has x.i m p.1 in
          silent_done x l m (joint (lobby vw.c.side x.i) (boxed vw.c.side 0)) (at_down (wrapper_of b) x vw.c.side k2 sd j0 ws) (not_kind x 2 1 k2 (λ z. omega arith))
          (not_kind x 2 7 k2 (λ z. omega arith)) q.label sy (quiet_goes q)) (λ p.
          ⊎_elim (λ p. up_done x l m lim (eqb-true x.kind 3 p.0) sd j0 ws
          (up_moves (All b s) (conf_of b s).boxes (wf_all b s e) (rooted_all b s e) root_all (wrapper_of b) vw.c vw.C vw.D vw.core each_now vw.ok.contents.box0 vw.has x.i m p.1) sy) (λ p.
          ⊎_elim (λ p. let k6 = eqb-true x.kind 6 p.0 in
          let q = pass_quiet (All b s) (conf_of b s).boxes (wf_all b s e) (rooted_all b s e) root_all (wrapper_of b) vw.c vw.C vw.D vw.core each_now vw.ok.contents.box0 vw.has
          (copies_log b.wrapper) vw.C1 vw.C2 vw.at_pass x.i m (ap (λ (z : Setting). Rattle.model.specs.Step.pass z.wrapper.copies vw.core x.i) (sym vw.c_is) ∙ p.1) in
          silent_done x l m (joint (lobby vw.c.side x.i) (passer vw.c.side)) (at_pass (wrapper_of b) x vw.c.side k6 sd j0 ws) (not_kind x 6 1 k6 (λ z. omega arith))
          (not_kind x 6 7 k6 (λ z. omega arith)) q.label sy (quiet_goes q)) (λ p.
          ⊎_elim (λ p. leave_done x l m (eqb-true x.kind 7 p.0) sd j0 ws p.1 sy) (λ p. absurd (clash p.1))
          (choose_done _ _ _ _ p.1)) (choose_done _ _ _ _ p.1)) (choose_done _ _ _ _ p.1)) (choose_done _ _ _ _ d.1)) (choose_done _ _ _ _ p.1)) (choose_done _ _ _ _ a.1)

      module _ (taking : (x : Step) (l : Label) (m : Moved) (r : Route) → x.kind ≡ 8 → x.words ≡ [] → x.side ≡ vw.c.side → route_to (wrapper_of b).routes vw.c.side x.j ≡ done r →
          takes r.source (shelf_of s r.source) vw.core x.i ≡ done m → SaysInv (wrapper_of b) (labelled m.label vw.c.side m.val) l → Done x l m) where
        pub local_done : (x : Step) (l : Label) (m : Moved) → x.side ≡ vw.c.side → local vw.c (known s) (shelf_of s) vw.core x ≡ done m → limits m.core ≡ true →
            SaysInv (wrapper_of b) (labelled m.label vw.c.side m.val) l → Done x l m
        unfolding local
        local_done x l m sd r lim sy =
            ⊎_elim (λ p. let a = need_done _ _ _ _ p.1 in
            let entered = ap (λ (z : Setting). enter z.wrapper.copies (known s) vw.core x.words) (sym vw.c_is) ∙ a.1 in
            enter_done x l m (eqb-true x.kind 1 p.0) sd (eqb-true x.i 0 (fst _ _ a.0)) (eqb-true x.j 0 (snd _ _ a.0)) entered sy)
            (λ p. ⊎_elim (λ q. let a = need_done _ _ _ _ q.1 in let g = bind_done _ _ _ a.1 in
            taking x l m g.0 (eqb-true x.kind 8 q.0) (empty_words x.words a.0) sd (ap (λ (z : Setting). route_to z.wrapper.routes vw.c.side x.j) (sym vw.c_is) ∙ g.1)
            g.2 sy) (λ q. inner_done x l m sd q.1 lim sy) (choose_done _ _ _ _ p.1))
            (choose_done _ _ _ _ r)
