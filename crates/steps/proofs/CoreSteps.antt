-- One law for each way that a step of the model goes, over a core that keeps its limits and has no output that is too long.
use mathlib.Core.Path.{◌≡◌, refl, ap, ◌∙◌}
use mathlib.Core.Bool.{Bool, true, false, not}
use mathlib.Core.List.{List, [], ◌∷◌, ◌++◌}
use mathlib.Core.Option.{some}
use Prim.Native.Nat.{ℕ, zero, suc, ◌+◌, ◌<◌, ◌≤◌}
use native.Mathlib.Omega.{arith}
use borrow.Author.Tests.{le-leb, eq-eqb, ne_eqb}
use lib.Dec.{eqb}
use lib.ListN.{length, get_elem?, set, length-append, length-set}
use Rattle.model.specs.Basics.{◌&◌, ◌or◌, refuse, done, need, every, remove, pick}
use Rattle.model.specs.Values.{is_value, is_minted}
use Rattle.model.specs.Side.{Tag, from_parent, from_child, Particle, output, input, Box, down, arrived, leaving, Message, Core, limits}
use Rattle.model.specs.Unfolding.{add_particle}
use Rattle.model.specs.Load.{Setting}
use Rattle.model.specs.Wrapper.{shelves}
use Rattle.model.specs.Step.{Moved, silent, enters, leaving_on, copied, silently, with_contents, with_lobby, with_particles, is_down, is_arrived, is_leaving, is_to_parent, is_to_child}
use Rattle.model.specs.Step.{enter, go_down, up_from, up_particle, up, descend_particle, descend, pass, leave, short, settled}
use Rattle.model.proofs.Formed.Keeping.{length_copied}
use Rattle.model.proofs.Basics.Tests.{both, every_append, every_one, every_remove, every_set, length_remove}
use Rattle.steps.proofs.Settling.{pick_past, pick_at, need_true, need_false, choose_true, choose_false, no_left, no_right, Within, limits_in, over_particles, over_lobby, over_shelf, settled_refused, settled_full, settled_within}

-- the core after each step
abbrev pub down_core : Core → ℕ → Message → Core
down_core s i m = with_lobby (with_contents s (add_particle s.contents (output 0 m.chan from_parent m.val))) (remove s.lobby i)

abbrev pub pass_core : (copies : List ℕ) → Core → ℕ → Message → Core
pass_core cs s i m = with_lobby s (set s.lobby i (record { status = leaving; chan = 1; val = m.val }) ++ copied cs m.val)

abbrev pub shelf_core : Core → ℕ → List ℕ → Core
shelf_core s i v = record { contents = with_particles s.contents (remove s.contents.particles i); lobby = s.lobby; shelf = s.shelf ++ (v ∷ []); taken = s.taken }

abbrev pub lobby_core : Core → ℕ → ℕ → List ℕ → Core
lobby_core s i ch v = with_lobby (with_contents s (with_particles s.contents (remove s.contents.particles i))) (s.lobby ++ (record { status = arrived; chan = ch; val = v } ∷ []))

abbrev pub put_core : Core → ℕ → Particle → Core
put_core s i p = with_contents s (with_particles s.contents (set s.contents.particles i p))

abbrev pub enter_core : (copies : List ℕ) → Core → List ℕ → Core
enter_core cs s v = with_lobby s (s.lobby ++ (copied cs v ++ (record { status = down; chan = 0; val = v } ∷ [])))

abbrev pub quiet : Core → Moved
quiet s = record { label = silent; val = []; core = s }

module _ (s : Core) (sh : every short s.contents.particles ≡ true) (few : limits s ≡ true) where
  in_limits : Within s
  in_limits = limits_in s few

  -- down
  pub down_10 : (i : ℕ) → length s.lobby ≤ i → settled (go_down s i) ≡ refuse 10
  unfolding go_down
  down_10 i h = settled_refused _ _ (pick_past s.lobby i _ h)

  down_at : (i : ℕ) (m : Message) → get_elem? s.lobby i ≡ some m → go_down s i ≡ need (is_down m.status) 13 (silently (down_core s i m))
  unfolding go_down
  down_at i m e = pick_at s.lobby i m _ e

  pub down_13 : (i : ℕ) (m : Message) → get_elem? s.lobby i ≡ some m → is_down m.status ≡ false → settled (go_down s i) ≡ refuse 13
  down_13 i m e t = settled_refused _ _ (down_at i m e ∙ need_false _ _ _ t)

  down_short : (m : Message) → length m.val ≤ 16 → every short (s.contents.particles ++ (output 0 m.chan from_parent m.val ∷ [])) ≡ true
  down_short m l = every_append short s.contents.particles (output 0 m.chan from_parent m.val ∷ []) sh (every_one short (output 0 m.chan from_parent m.val) (le-leb _ _ l))

  pub down_17 : (i : ℕ) (m : Message) → get_elem? s.lobby i ≡ some m → is_down m.status ≡ true → length m.val ≤ 16 → 32 ≤ length s.contents.particles → settled (go_down s i) ≡ refuse 17
  down_17 i m e t l h =
      settled_full _ (quiet (down_core s i m)) (down_at i m e ∙ need_true _ _ _ t) (down_short m l)
      (over_particles (down_core s i m) (omega (arith, length-append s.contents.particles (output 0 m.chan from_parent m.val ∷ []))))

  pub down_done : (i : ℕ) (m : Message) → get_elem? s.lobby i ≡ some m → is_down m.status ≡ true → length m.val ≤ 16 → length s.contents.particles < 32 → settled (go_down s i) ≡ done (quiet (down_core s i m))
  down_done i m e t l h =
      let w = in_limits in
      settled_within _ (quiet (down_core s i m)) (down_at i m e ∙ need_true _ _ _ t) (down_short m l)
      (record { particles = omega (arith, length-append s.contents.particles (output 0 m.chan from_parent m.val ∷ [])); boxes = w.boxes; minted = w.minted; lobby = omega (arith, length_remove s.lobby i); shelf = w.shelf })

  -- pass, with copies on these channels
  module _ (cs : List ℕ) where
    pub pass_10 : (i : ℕ) → length s.lobby ≤ i → settled (pass cs s i) ≡ refuse 10
    unfolding pass
    pass_10 i h = settled_refused _ _ (pick_past s.lobby i _ h)

    pass_at : (i : ℕ) (m : Message) → get_elem? s.lobby i ≡ some m → pass cs s i ≡ need (is_arrived m.status & eqb m.chan 1) 13 (silently (pass_core cs s i m))
    unfolding pass
    pass_at i m e = pick_at s.lobby i m _ e

    pub pass_13 : (i : ℕ) (m : Message) → get_elem? s.lobby i ≡ some m → is_arrived m.status & eqb m.chan 1 ≡ false → settled (pass cs s i) ≡ refuse 13
    pass_13 i m e t = settled_refused _ _ (pass_at i m e ∙ need_false _ _ _ t)

    pass_length : (i : ℕ) (m : Message) → length (pass_core cs s i m).lobby ≡ length s.lobby + length cs
    pass_length i m =
        let t : Message = record { status = leaving; chan = 1; val = m.val } in
        omega (arith, length-append (set s.lobby i t) (copied cs m.val), length-set s.lobby i t, length_copied cs m.val)

    pub pass_17 : (i : ℕ) (m : Message) → get_elem? s.lobby i ≡ some m → is_arrived m.status ≡ true → m.chan ≡ 1 → 16 < length s.lobby + length cs → settled (pass cs s i) ≡ refuse 17
    pass_17 i m e t c h =
        settled_full _ (quiet (pass_core cs s i m)) (pass_at i m e ∙ need_true _ _ _ (both _ _ t (eq-eqb _ _ c))) sh (over_lobby (pass_core cs s i m) (omega (arith, pass_length i m)))

    pub pass_done : (i : ℕ) (m : Message) → get_elem? s.lobby i ≡ some m → is_arrived m.status ≡ true → m.chan ≡ 1 → length s.lobby + length cs ≤ 16 → settled (pass cs s i) ≡ done (quiet (pass_core cs s i m))
    pass_done i m e t c h =
        let w = in_limits in
        settled_within _ (quiet (pass_core cs s i m)) (pass_at i m e ∙ need_true _ _ _ (both _ _ t (eq-eqb _ _ c))) sh
        (record { particles = w.particles; boxes = w.boxes; minted = w.minted; lobby = omega (arith, pass_length i m); shelf = w.shelf })

  -- leave
  pub leave_10 : (i : ℕ) → length s.lobby ≤ i → settled (leave s i) ≡ refuse 10
  unfolding leave
  leave_10 i h = settled_refused _ _ (pick_past s.lobby i _ h)

  leave_at_lem : (i : ℕ) (m : Message) → get_elem? s.lobby i ≡ some m → leave s i ≡ need (is_leaving m.status) 13 (done (record { label = leaving_on m.chan; val = m.val; core = with_lobby s (remove s.lobby i) }))
  unfolding leave
  leave_at_lem i m e = pick_at s.lobby i m _ e

  pub leave_13 : (i : ℕ) (m : Message) → get_elem? s.lobby i ≡ some m → is_leaving m.status ≡ false → settled (leave s i) ≡ refuse 13
  leave_13 i m e t = settled_refused _ _ (leave_at_lem i m e ∙ need_false _ _ _ t)

  pub leave_done : (i : ℕ) (m : Message) → get_elem? s.lobby i ≡ some m → is_leaving m.status ≡ true → settled (leave s i) ≡ done (record { label = leaving_on m.chan; val = m.val; core = with_lobby s (remove s.lobby i) })
  leave_done i m e t =
      let w = in_limits in
      settled_within _ (record { label = leaving_on m.chan; val = m.val; core = with_lobby s (remove s.lobby i) }) (leave_at_lem i m e ∙ need_true _ _ _ t) sh
      (record { particles = w.particles; boxes = w.boxes; minted = w.minted; lobby = omega (arith, length_remove s.lobby i); shelf = w.shelf })

  -- up
  pub up_10 : (c : Setting) (i : ℕ) → length s.contents.particles ≤ i → settled (up c s i) ≡ refuse 10
  unfolding up
  up_10 c i h = settled_refused _ _ (pick_past s.contents.particles i _ h)

  up_at : (c : Setting) (i : ℕ) (p : Particle) → get_elem? s.contents.particles i ≡ some p → up c s i ≡ up_particle c s i p
  unfolding up
  up_at c i p e = pick_at s.contents.particles i p _ e

  pub up_input : (c : Setting) (i b n : ℕ) (vs : List (List ℕ)) → get_elem? s.contents.particles i ≡ some (input b n vs) → settled (up c s i) ≡ refuse 13
  unfolding up_particle
  up_input c i b n vs e = settled_refused _ _ (up_at c i (input b n vs) e)

  pub up_13 : (c : Setting) (i b ch : ℕ) (g : Tag) (v : List ℕ) → get_elem? s.contents.particles i ≡ some (output b ch g v) → is_to_parent g ≡ false → settled (up c s i) ≡ refuse 13
  unfolding up_particle
  up_13 c i b ch g v e t = settled_refused _ _ (up_at c i (output b ch g v) e ∙ need_false _ _ _ t)

  pub up_from_lem : (c : Setting) (i b ch : ℕ) (g : Tag) (v : List ℕ) → get_elem? s.contents.particles i ≡ some (output b ch g v) → is_to_parent g ≡ true → settled (up c s i) ≡ settled (up_from c s i b ch v)
  unfolding up_particle
  up_from_lem c i b ch g v e t = ap settled (up_at c i (output b ch g v) e ∙ need_true _ _ _ t)

  remove_short : (i : ℕ) → every short (remove s.contents.particles i) ≡ true
  remove_short i = every_remove short s.contents.particles i sh

  shelf_from : (c : Setting) (i : ℕ) (v : List ℕ) → shelves c.wrapper c.side ≡ true → up_from c s i 0 2 v ≡ done (quiet (shelf_core s i v))
  unfolding up_from
  shelf_from c i v e = choose_true _ _ _ (both _ _ e refl)

  pub shelf_17 : (c : Setting) (i : ℕ) (v : List ℕ) → shelves c.wrapper c.side ≡ true → 32 ≤ length s.shelf → settled (up_from c s i 0 2 v) ≡ refuse 17
  shelf_17 c i v e h =
      settled_full _ (quiet (shelf_core s i v)) (shelf_from c i v e) (remove_short i)
      (over_shelf (shelf_core s i v) (omega (arith, length-append s.shelf (v ∷ []))))

  pub shelf_done : (c : Setting) (i : ℕ) (v : List ℕ) → shelves c.wrapper c.side ≡ true → length s.shelf < 32 → settled (up_from c s i 0 2 v) ≡ done (quiet (shelf_core s i v))
  shelf_done c i v e h =
      let w = in_limits in
      settled_within _ (quiet (shelf_core s i v)) (shelf_from c i v e) (remove_short i)
      (record { particles = omega (arith, length_remove s.contents.particles i); boxes = w.boxes; minted = w.minted; lobby = w.lobby; shelf = omega (arith, length-append s.shelf (v ∷ [])) })

  lobby_from : (c : Setting) (i ch : ℕ) (v : List ℕ) → shelves c.wrapper c.side & eqb ch 2 ≡ false → up_from c s i 0 ch v ≡ done (quiet (lobby_core s i ch v))
  unfolding up_from
  lobby_from c i ch v e = choose_false _ _ _ e

  pub lobby_17 : (c : Setting) (i ch : ℕ) (v : List ℕ) → shelves c.wrapper c.side & eqb ch 2 ≡ false → 16 ≤ length s.lobby → settled (up_from c s i 0 ch v) ≡ refuse 17
  lobby_17 c i ch v e h =
      settled_full _ (quiet (lobby_core s i ch v)) (lobby_from c i ch v e) (remove_short i)
      (over_lobby (lobby_core s i ch v) (omega (arith, length-append s.lobby (record { status = arrived; chan = ch; val = v } ∷ []))))

  pub lobby_done : (c : Setting) (i ch : ℕ) (v : List ℕ) → shelves c.wrapper c.side & eqb ch 2 ≡ false → length s.lobby < 16 → settled (up_from c s i 0 ch v) ≡ done (quiet (lobby_core s i ch v))
  lobby_done c i ch v e h =
      let w = in_limits in
      let more = length-append s.lobby (record { status = arrived; chan = ch; val = v } ∷ []) in
      settled_within _ (quiet (lobby_core s i ch v)) (lobby_from c i ch v e) (remove_short i)
      (record { particles = omega (arith, length_remove s.contents.particles i); boxes = w.boxes; minted = w.minted; lobby = omega (arith, more); shelf = w.shelf })

  put_within : (i : ℕ) (p : Particle) → Within (put_core s i p)
  put_within i p =
      let w = in_limits in
      record { particles = omega (arith, length-set s.contents.particles i p); boxes = w.boxes; minted = w.minted; lobby = w.lobby; shelf = w.shelf }

  put_short : (i b ch : ℕ) (g : Tag) (v : List ℕ) → length v ≤ 16 → every short (set s.contents.particles i (output b ch g v)) ≡ true
  put_short i b ch g v l = every_set short s.contents.particles i (output b ch g v) sh (le-leb _ _ l)

  box_from : (c : Setting) (i b ch : ℕ) (v : List ℕ) (x : Box) → 0 < b → get_elem? s.contents.boxes b ≡ some x → up_from c s i b ch v ≡ done (quiet (put_core s i (output x.parent ch (from_child x.name) v)))
  unfolding up_from
  box_from c i zero ch v x h e = absurd (omega arith)
  box_from c i (suc b) ch v x h e = pick_at s.contents.boxes (suc b) x _ e

  pub box_done : (c : Setting) (i b ch : ℕ) (v : List ℕ) (x : Box) → 0 < b → get_elem? s.contents.boxes b ≡ some x → length v ≤ 16 →
      settled (up_from c s i b ch v) ≡ done (quiet (put_core s i (output x.parent ch (from_child x.name) v)))
  box_done c i b ch v x h e l =
      settled_within _ (quiet (put_core s i (output x.parent ch (from_child x.name) v))) (box_from c i b ch v x h e)
      (put_short i x.parent ch (from_child x.name) v l) (put_within i (output x.parent ch (from_child x.name) v))

  -- descend
  pub descend_10 : (i j : ℕ) → length s.contents.particles ≤ i → settled (descend s i j) ≡ refuse 10
  unfolding descend
  descend_10 i j h = settled_refused _ _ (pick_past s.contents.particles i _ h)

  descend_from : (i j : ℕ) (p : Particle) → get_elem? s.contents.particles i ≡ some p → descend s i j ≡ pick s.contents.boxes j (λ x. descend_particle s i j x p)
  unfolding descend
  descend_from i j p e = pick_at s.contents.particles i p (λ p. pick s.contents.boxes j (λ x. descend_particle s i j x p)) e

  pub descend_10_box : (i j : ℕ) (p : Particle) → get_elem? s.contents.particles i ≡ some p → length s.contents.boxes ≤ j → settled (descend s i j) ≡ refuse 10
  descend_10_box i j p e h = settled_refused _ _ (descend_from i j p e ∙ pick_past s.contents.boxes j _ h)

  descend_at : (i j : ℕ) (p : Particle) (x : Box) → get_elem? s.contents.particles i ≡ some p → get_elem? s.contents.boxes j ≡ some x → descend s i j ≡ descend_particle s i j x p
  descend_at i j p x e f = descend_from i j p e ∙ pick_at s.contents.boxes j x (λ x. descend_particle s i j x p) f

  pub descend_input : (i j b n : ℕ) (vs : List (List ℕ)) (x : Box) → get_elem? s.contents.particles i ≡ some (input b n vs) → get_elem? s.contents.boxes j ≡ some x → settled (descend s i j) ≡ refuse 13
  unfolding descend_particle
  descend_input i j b n vs x e f = settled_refused _ _ (descend_at i j (input b n vs) x e f)

  module _ (i j b ch : ℕ) (g : Tag) (v : List ℕ) (x : Box) (e : get_elem? s.contents.particles i ≡ some (output b ch g v)) (f : get_elem? s.contents.boxes j ≡ some x) where
    pub descend_13 : not (eqb j 0) & (eqb x.parent b & is_to_child g x.name) ≡ false → settled (descend s i j) ≡ refuse 13
    unfolding descend_particle
    descend_13 t = settled_refused _ _ (descend_at i j (output b ch g v) x e f ∙ need_false _ _ _ t)

    pub descend_13_handler_box : j ≡ 0 → settled (descend s i j) ≡ refuse 13
    descend_13_handler_box z = descend_13 (no_left _ _ (ap not (eq-eqb j 0 z)))

    pub descend_13_parent : (x.parent ≡ b → ⊥) → settled (descend s i j) ≡ refuse 13
    descend_13_parent n = descend_13 (no_right _ _ (no_left _ _ (ne_eqb _ _ n)))

    pub descend_13_name : is_to_child g x.name ≡ false → settled (descend s i j) ≡ refuse 13
    descend_13_name n = descend_13 (no_right _ _ (no_right _ _ n))

    descend_is : (j ≡ 0 → ⊥) → x.parent ≡ b → is_to_child g x.name ≡ true → descend s i j ≡ done (quiet (put_core s i (output j ch from_parent v)))
    unfolding descend_particle
    descend_is h p t =
        descend_at i j (output b ch g v) x e f ∙
        need_true _ _ _ (both _ _ (ap not (ne_eqb j 0 h)) (both _ _ (eq-eqb _ _ p) t))

    pub descend_done : (j ≡ 0 → ⊥) → x.parent ≡ b → is_to_child g x.name ≡ true → length v ≤ 16 → settled (descend s i j) ≡ done (quiet (put_core s i (output j ch from_parent v)))
    descend_done h p t l =
        settled_within _ (quiet (put_core s i (output j ch from_parent v))) (descend_is h p t) (put_short i j ch from_parent v l) (put_within i (output j ch from_parent v))

  -- enter, with copies on these channels
  module _ (cs : List ℕ) (known : ℕ → Bool) (ws : List ℕ) where
    pub enter_11 : is_value ws ≡ false → settled (enter cs known s ws) ≡ refuse 11
    unfolding enter
    enter_11 e = settled_refused _ _ (need_false _ _ _ e)

    pub enter_12 : is_value ws ≡ true → every (λ w. not (is_minted w) or known w) ws ≡ false → settled (enter cs known s ws) ≡ refuse 12
    unfolding enter
    enter_12 e t = settled_refused _ _ (need_true _ _ _ e ∙ need_false _ _ _ t)

    abbrev pub entered : Moved
    entered = record { label = enters; val = ws; core = enter_core cs s ws }

    enter_is : is_value ws ≡ true → every (λ w. not (is_minted w) or known w) ws ≡ true → enter cs known s ws ≡ done entered
    unfolding enter
    enter_is e t = need_true _ _ _ e ∙ need_true _ _ _ t

    enter_length : length (enter_core cs s ws).lobby ≡ length s.lobby + (length cs + 1)
    enter_length =
        let M : List Message = record { status = down; chan = 0; val = ws } ∷ [] in
        omega (arith, length-append s.lobby (copied cs ws ++ M), length-append (copied cs ws) M, length_copied cs ws)

    pub enter_17 : is_value ws ≡ true → every (λ w. not (is_minted w) or known w) ws ≡ true → 16 < length s.lobby + (length cs + 1) → settled (enter cs known s ws) ≡ refuse 17
    enter_17 e t h = settled_full _ entered (enter_is e t) sh (over_lobby (enter_core cs s ws) (omega (arith, enter_length)))

    pub enter_done : is_value ws ≡ true → every (λ w. not (is_minted w) or known w) ws ≡ true → length s.lobby + (length cs + 1) ≤ 16 → settled (enter cs known s ws) ≡ done entered
    enter_done e t h =
        let w = in_limits in
        settled_within _ entered (enter_is e t) sh (record { particles = w.particles; boxes = w.boxes; minted = w.minted; lobby = omega (arith, enter_length); shelf = w.shelf })
