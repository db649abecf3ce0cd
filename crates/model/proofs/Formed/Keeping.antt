-- Each step but Meet keeps its side well formed.
use mathlib.Core.Path.{◌≡◌, refl, sym, ap, ◌∙◌, subst}
use mathlib.Core.Bool.{Bool, true, false, not, cond, false≢true}
use mathlib.Core.List.{List, [], ◌∷◌, ◌++◌}
use mathlib.Core.Logic.{⊎_elim}
use Prim.Native.Nat.{ℕ, zero, suc, ◌+◌, ◌<◌, ◌≤◌}
use native.Mathlib.Nat.{add-zero}
use native.Mathlib.Omega.{arith}
use borrow.Author.Tests.{leb-true, ltb-true, eqb-true, le-leb, lt-ltb}
use lib.Dec.{ltb, eqb}
use lib.ListN.{length, set, length-append, length-set, length-map}
use Rattle.model.specs.Basics.{◌&◌, ◌or◌, Res, refuse, done, every, has, remove, pick}
use Rattle.model.specs.Values.{items, is_tuple, is_name, is_minted, is_value, shaped, arity}
use Rattle.model.specs.Side.{to_parent, from_parent, from_child, Particle, output, input, Box, Status, down, arrived, leaving, Message, Contents, Core, within_limits, limits, taken_at}
use Rattle.model.specs.Wrapper.{shelves}
use Rattle.model.specs.Load.{Setting}
use Rattle.model.specs.WellFormed.{Counts, held, held_word, wf_value, wf_tag, wf_particle, wf_boxes, wf_message}
use Rattle.model.specs.Step.{Label, silent, enters, leaves, logs, Moved, is_leaving, copied, leaving_on, with_contents, with_lobby, with_particles, enter, go_down, up_from, up_particle, up, descend_particle, descend, pass, leave, takes}
use Rattle.model.proofs.Basics.Tests.{fst, snd, both, alt, alt_left, alt_right, every_two, every_has, every_append, every_one, every_remove, every_set, length_remove, need_done, choose_done, pick_done}
use Rattle.model.proofs.Basics.Names.{is_public_lem, is_outside_lem, held_of}
use Rattle.model.proofs.Formed.Growing.{ContentsOk, wf_in, CoreOk}

-- copies leave on `log` alone
abbrev pub is_log : ℕ → Bool
is_log x = eqb x 3

-- what a label may have for its value: none where it is silent, else a value whose names are held; and log is said only where copies leave
abbrev pub Spoken : (copies : List ℕ) → Counts → Label → List ℕ → Type 0
Spoken cs k silent v = v ≡ []
Spoken cs k enters v = wf_value k v ≡ true
Spoken cs k leaves v = wf_value k v ≡ true
Spoken cs k logs v = (wf_value k v ≡ true) × ((x : ℕ) × (has x cs ≡ true))

pub spoken_held : (cs : List ℕ) (k : Counts) (l : Label) (v : List ℕ) → Spoken cs k l v → every (held_word k) v ≡ true
unfolding wf_value
spoken_held cs k silent v h = ap (every (held_word k)) h
spoken_held cs k enters v h = snd _ _ h
spoken_held cs k leaves v h = snd _ _ h
spoken_held cs k logs v h = snd _ _ h.0

-- a leaving message is on `out` or on a channel of copies
pub left_on : (c : Setting) (k : Counts) (n : Message) → is_leaving n.status ≡ true → wf_in c k n ≡ true → eqb n.chan 1 or has n.chan c.wrapper.copies ≡ true
unfolding wf_message
left_on c k n st h = go n.status st (snd _ _ (snd _ _ h))
  where
    go : (p : Status) → is_leaving p ≡ true → elim p as (λ p. Bool) [
      | down ↦ eqb n.chan 0 or eqb n.chan 2
      | arrived ↦ not (shelves c.wrapper c.side & eqb n.chan 2)
      | leaving ↦ eqb n.chan 1 or has n.chan c.wrapper.copies
    ] ≡ true → eqb n.chan 1 or has n.chan c.wrapper.copies ≡ true
    go down p h = absurd (false≢true p)
    go arrived p h = absurd (false≢true p)
    go leaving p h = h

pub record Kept (c : Setting) (k : Counts) (s : Core) (m : Moved) : Type 0 where
  pub ok : CoreOk c k m.core
  pub minted : m.core.contents.minted ≡ s.contents.minted
  pub shelf : length s.shelf ≤ length m.core.shelf
  pub taken : m.core.taken ≡ s.taken
  pub said : Spoken c.wrapper.copies k m.label m.val

pub done_inj : {A : Type 0} {x y : A} → done x ≡ done y → x ≡ y
done_inj e = cc

length_one : {A : Type 0} (l : List A) (x : A) → length (l ++ (x ∷ [])) ≡ length l + 1
length_one l x = length-append l (x ∷ [])

pub length_copied : (cs v : List ℕ) → length (copied cs v) ≡ length cs
length_copied cs v = length-map cs _

-- a whole value's words are leaves and tuple words
pub items_words : (leaf : ℕ → Bool) (e : ℕ) (ws : List ℕ) (n : ℕ) (r : List ℕ) → items leaf e ws n ≡ done r → length r ≡ 0 → every (λ w. leaf w or is_tuple w) ws ≡ true
unfolding items
items_words leaf e [] n r p q = refl
items_words leaf e (w ∷ ws) zero r p q = let z : length (w ∷ ws) ≡ 0 = ap length (done_inj p) ∙ q in absurd (omega arith)
items_words leaf e (w ∷ ws) (suc n) r p q = go (leaf w) refl (is_tuple w) refl (λ p'. items_words leaf e ws n r p' q) (λ p'. items_words leaf e ws (arity w + n) r p' q)
  where
    go : (t : Bool) → leaf w ≡ t → (u : Bool) → is_tuple w ≡ u → (items leaf e ws n ≡ done r → every (λ w. leaf w or is_tuple w) ws ≡ true) →
        (items leaf e ws (arity w + n) ≡ done r → every (λ w. leaf w or is_tuple w) ws ≡ true) → every (λ w. leaf w or is_tuple w) (w ∷ ws) ≡ true
    go true a u b f g = both _ _ (alt_left _ _ a) (f (rw (a, items) at p))
    go false a true b f g = both _ _ (alt_right _ _ b) (g (rw (a, b, items) at p))
    go false a false b f g = let z : ◌≡◌ {A = ℕ} 0 1 = cc (rw (a, b, items) at p) in absurd (omega arith)

pub shaped_words : (v : List ℕ) → shaped v ≡ true → every (λ w. is_name w or is_tuple w) v ≡ true
unfolding shaped
shaped_words v e = go (items is_name 11 v 1) refl
  where
    go : (r : Res (List ℕ)) → items is_name 11 v 1 ≡ r → every (λ w. is_name w or is_tuple w) v ≡ true
    go (refuse n) p = absurd (false≢true (rw (p, shaped) at e))
    go (done r) p = items_words is_name 11 v 1 r p (eqb-true (length r) 0 (rw (p, shaped) at e))

-- the box at a place: its parent is earlier and its name is held, unless it is box 0
boxes_pick : {B : Type 0} (k : Counts) (l : List Box) (i j : ℕ) (f : Box → Res B) (b : B) → pick l j f ≡ done b → wf_boxes k i l ≡ true →
    (x : Box) × (f x ≡ done b) × (eqb (i + j) 0 or (ltb x.parent (i + j) & held k x.name) ≡ true) × (j < length l)
unfolding pick wf_boxes
boxes_pick k [] i j f b e h = let z : ◌≡◌ {A = ℕ} 0 1 = cc in absurd (omega arith)
boxes_pick k (x ∷ xs) i zero f b e h = (x, e, rw add-zero (fst _ _ h), omega arith)
boxes_pick k (x ∷ xs) i (suc j) f b e h =
    let r = boxes_pick k xs (i + 1) j f b e (snd _ _ h) in
    let q : i + suc j ≡ i + 1 + j = omega arith in
    (r.0, r.1, rw q r.2, omega (arith, r.3))

pub few_lobby_of : (s : Core) → limits s ≡ true → length s.lobby ≤ 16
unfolding limits
few_lobby_of s l = leb-true (length s.lobby) 16 (fst _ _ (snd _ _ l))

pub few_shelf_of : (s : Core) → limits s ≡ true → length s.shelf ≤ 32
unfolding limits
few_shelf_of s l = leb-true (length s.shelf) 32 (snd _ _ (snd _ _ l))

pub few_parts_of : (s : Core) → limits s ≡ true → length s.contents.particles ≤ 32
unfolding limits
few_parts_of s l = leb-true (length s.contents.particles) 32 (fst _ _ (fst _ _ l))

pub roomy_of : (s : Core) → limits s ≡ true → within_limits s.contents ≡ true
unfolding limits
roomy_of s l = fst _ _ l

-- the limits that a result keeps are those of the state it is
pub at_limits : {m n : Moved} → done n ≡ done m → limits m.core ≡ true → limits n.core ≡ true
at_limits {m} {n} e l = subst (λ (y : Moved). limits y.core ≡ true) (sym (done_inj e)) l

has_itself : (l : List ℕ) → every (λ x. has x l) l ≡ true
has_itself l = every_has (λ x. has x l) l (λ x q. q)

module _ (c : Setting) (k : Counts) (s : Core) (o : CoreOk c k s) where
  -- lobby messages more
  lobby_more : (ms : List Message) → every (wf_in c k) ms ≡ true → (t : List Bool) →
      limits (record { contents = s.contents; lobby = s.lobby ++ ms; shelf = s.shelf; taken = t }) ≡ true →
      CoreOk c k (record { contents = s.contents; lobby = s.lobby ++ ms; shelf = s.shelf; taken = t })
  lobby_more ms h t l = record {
    contents = o.contents;
    few_lobby = few_lobby_of _ l;
    lobby = every_append (wf_in c k) s.lobby ms o.lobby h;
    few_shelf = o.few_shelf;
    shelf = o.shelf;
    whose = o.whose;
  }

  -- the copies of a value are well formed, as `log` is public
  copied_wf : every is_log c.wrapper.copies ≡ true → (v : List ℕ) → wf_value k v ≡ true → every (wf_in c k) (copied c.wrapper.copies v) ≡ true
  unfolding wf_message held
  copied_wf cl v h = go c.wrapper.copies cl (has_itself c.wrapper.copies)
    where
      one : (x : ℕ) → is_log x ≡ true → has x c.wrapper.copies ≡ true → wf_in c k (record { status = leaving; chan = x; val = v }) ≡ true
      one x p q = both _ _ h (both _ _ (alt_left _ _ (le-leb x 63 (let z = eqb-true x 3 p in omega arith))) (alt_right _ _ q))

      go : (ds : List ℕ) → every is_log ds ≡ true → every (λ x. has x c.wrapper.copies) ds ≡ true → every (wf_in c k) (copied ds v) ≡ true
      go [] p q = refl
      go (x ∷ ds) p q = both _ _ (one x (fst _ _ p) (fst _ _ q)) (go ds (snd _ _ p) (snd _ _ q))

  pub enter_keeps : every is_log c.wrapper.copies ≡ true → (known : ℕ → Bool) → ((w : ℕ) → known w ≡ true → is_minted w ≡ true → held k w ≡ true) →
      (ws : List ℕ) (m : Moved) → enter c.wrapper.copies known s ws ≡ done m → limits m.core ≡ true → Kept c k s m
  unfolding enter is_value wf_message wf_value held held_word
  enter_keeps cl known kn ws m e lim =
      let a = need_done _ _ _ _ e in
      let b = need_done _ _ _ _ a.1 in
      let word : (w : ℕ) → is_name w or is_tuple w ≡ true → not (is_minted w) or known w ≡ true → held_word k w ≡ true =
      λ w p q. ⊎_elim
      (λ n. alt_right _ _ (⊎_elim (λ pu. held_of k w (is_public_lem pu))
      (λ r. ⊎_elim (λ mi. ⊎_elim (λ z. absurd (false≢true (rw mi at z))) (λ y. kn w y mi) (alt _ _ q)) (λ ou. held_of k w (is_outside_lem ou)) (alt _ _ r)) (alt _ _ n)))
      (λ t. alt_left _ _ (fst _ _ t)) (alt _ _ p) in
      let val : wf_value k ws ≡ true = both _ _ a.0 (every_two _ _ _ word ws (shaped_words ws (snd _ _ a.0)) b.0) in
      let down-wf = every_one (wf_in c k) (record { status = down; chan = 0; val = ws }) (both _ _ val (both _ _ (alt_left _ _ refl) (alt_left _ _ refl))) in
      subst (λ (y : Moved). Kept c k s y) (done_inj b.1)
      (record {
        ok = lobby_more _ (every_append (wf_in c k) (copied c.wrapper.copies ws) _ (copied_wf cl ws val) down-wf) s.taken (at_limits b.1 lim);
        minted = refl;
        shelf = omega arith;
        taken = refl;
        said = val;
      })

  -- a lobby message less, or changed
  lobby_less : (i : ℕ) → CoreOk c k (with_lobby s (remove s.lobby i))
  lobby_less i = record {
    contents = o.contents;
    few_lobby = omega (arith, o.few_lobby, length_remove s.lobby i);
    lobby = every_remove _ s.lobby i o.lobby;
    few_shelf = o.few_shelf;
    shelf = o.shelf;
    whose = o.whose;
  }

  -- other particles, within the limit
  parts_new : (ps : List Particle) → length ps ≤ 32 → every (wf_particle c.table k (length s.contents.boxes)) ps ≡ true → ContentsOk c.table k (with_particles s.contents ps)
  parts_new ps l h = record { few = both _ _ (le-leb _ _ l) (snd _ _ o.contents.few); box0 = o.contents.box0; boxes = o.contents.boxes; particles = h }

  with_contents_lem : (u : Contents) → ContentsOk c.table k u → CoreOk c k (with_contents s u)
  with_contents_lem u h = record { contents = h; few_lobby = o.few_lobby; lobby = o.lobby; few_shelf = o.few_shelf; shelf = o.shelf; whose = o.whose }

  few_parts : length s.contents.particles ≤ 32
  few_parts = leb-true (length s.contents.particles) 32 (fst _ _ o.contents.few)

  -- one particle changed
  part_set : (i : ℕ) (p : Particle) → wf_particle c.table k (length s.contents.boxes) p ≡ true → CoreOk c k (with_contents s (with_particles s.contents (set s.contents.particles i p)))
  part_set i p h = with_contents_lem _ (parts_new _ (rw length-set few_parts) (every_set _ s.contents.particles i p o.contents.particles h))

  pub pass_keeps : every is_log c.wrapper.copies ≡ true → (i : ℕ) (m : Moved) → pass c.wrapper.copies s i ≡ done m → limits m.core ≡ true → Kept c k s m
  unfolding pass wf_message held
  pass_keeps cl i m e lim =
      let (x, f, g, l) = pick_done _ _ _ _ e in
      let a = need_done _ _ _ _ f in
      let ms = g (wf_in c k) o.lobby in
      subst (λ (y : Moved). Kept c k s y) (done_inj a.1)
      (record {
        ok = record {
          contents = o.contents;
          few_lobby = few_lobby_of _ (at_limits a.1 lim);
          lobby = every_append (wf_in c k) (set s.lobby i _) _ (every_set (wf_in c k) s.lobby i (record { status = leaving; chan = 1; val = x.val }) o.lobby
              (both _ _ (fst _ _ ms) (both _ _ (alt_left _ _ refl) (alt_left _ _ refl)))) (copied_wf cl x.val (fst _ _ ms));
          few_shelf = o.few_shelf;
          shelf = o.shelf;
          whose = o.whose;
        };
        minted = refl;
        shelf = omega arith;
        taken = refl;
        said = refl;
      })

  pub leave_keeps : (i : ℕ) (m : Moved) → leave s i ≡ done m → Kept c k s m
  unfolding leave wf_message wf_value
  leave_keeps i m e =
      let (x, f, g, l) = pick_done _ _ _ _ e in
      let a = need_done _ _ _ _ f in
      let ms = g (wf_in c k) o.lobby in
      subst (λ (y : Moved). Kept c k s y) (done_inj a.1) (record { ok = lobby_less i; minted = refl; shelf = omega arith; taken = refl; said = spoken x (fst _ _ ms) (left_on c k x a.0 ms) })
    where
      spoken : (x : Message) → wf_value k x.val ≡ true → eqb x.chan 1 or has x.chan c.wrapper.copies ≡ true → Spoken c.wrapper.copies k (leaving_on x.chan) x.val
      spoken x h on = go (eqb x.chan 1) on
        where
          go : (t : Bool) → t or has x.chan c.wrapper.copies ≡ true → Spoken c.wrapper.copies k (cond t leaves logs) x.val
          go true q = h
          go false q = (h, (x.chan, ⊎_elim (λ p. absurd (false≢true p)) (λ p. p) (alt _ _ q)))

  pub down_keeps : (i : ℕ) (m : Moved) → go_down s i ≡ done m → limits m.core ≡ true → Kept c k s m
  unfolding go_down wf_message wf_particle wf_tag
  down_keeps i m e lim =
      let (x, f, g, l) = pick_done _ _ _ _ e in
      let a = need_done _ _ _ _ f in
      let ms = g (wf_in c k) o.lobby in
      let less' = lobby_less i in
      subst (λ (y : Moved). Kept c k s y) (done_inj a.1)
      (record {
        ok = record {
          contents = parts_new (s.contents.particles ++ (output 0 x.chan from_parent x.val ∷ [])) (few_parts_of _ (at_limits a.1 lim))
              (every_append _ s.contents.particles (output 0 x.chan from_parent x.val ∷ []) o.contents.particles
              (every_one (wf_particle c.table k (length s.contents.boxes)) (output 0 x.chan from_parent x.val) (both _ _ (lt-ltb 0 _ o.contents.box0) (both _ _ (fst _ _ (snd _ _ ms)) (both _ _ refl (fst _ _ ms))))));
          few_lobby = less'.few_lobby;
          lobby = less'.lobby;
          few_shelf = o.few_shelf;
          shelf = o.shelf;
          whose = o.whose;
        };
        minted = refl;
        shelf = omega arith;
        taken = refl;
        said = refl;
      })

  pub descend_keeps : (i j : ℕ) (m : Moved) → descend s i j ≡ done m → Kept c k s m
  unfolding descend descend_particle wf_particle wf_tag
  descend_keeps i j m e =
      let (p, f, g, l) = pick_done _ _ _ _ e in
      let (x, f', g', l') = pick_done _ _ _ _ f in
      go p x l' f' (g (wf_particle c.table k (length s.contents.boxes)) o.contents.particles)
    where
      go : (p : Particle) (x : Box) → j < length s.contents.boxes → descend_particle s i j x p ≡ done m → wf_particle c.table k (length s.contents.boxes) p ≡ true → Kept c k s m
      go (input b n vs) x l f h = let z : ◌≡◌ {A = ℕ} 0 1 = cc in absurd (omega arith)
      go (output b ch g v) x l f h =
          let a = need_done _ _ _ _ f in
          subst (λ (y : Moved). Kept c k s y) (done_inj a.1)
          (record {
            ok = part_set i (output j ch from_parent v) (both _ _ (lt-ltb _ _ l) (both _ _ (fst _ _ (snd _ _ h)) (both _ _ refl (snd _ _ (snd _ _ (snd _ _ h))))));
            minted = refl;
            shelf = omega arith;
            taken = refl;
            said = refl;
          })

  pub up_keeps : (i : ℕ) (m : Moved) → up c s i ≡ done m → limits m.core ≡ true → Kept c k s m
  unfolding up up_particle up_from wf_particle wf_tag wf_message
  up_keeps i m e lim =
      let (p, f, g, l) = pick_done _ _ _ _ e in
      go p f (g (wf_particle c.table k (length s.contents.boxes)) o.contents.particles)
    where
      gone : CoreOk c k (with_contents s (with_particles s.contents (remove s.contents.particles i)))
      gone = with_contents_lem _ (parts_new _ (omega (arith, few_parts, length_remove s.contents.particles i)) (every_remove _ s.contents.particles i o.contents.particles))

      not_both : (a b : Bool) → a & b ≡ false → not (a & b) ≡ true
      not_both a b p = rw p

      from : (b ch : ℕ) (v : List ℕ) → up_from c s i b ch v ≡ done m → wf_particle c.table k (length s.contents.boxes) (output b ch to_parent v) ≡ true → Kept c k s m
      from zero ch v f h =
          let val = snd _ _ (snd _ _ (snd _ _ h)) in
          let hc = fst _ _ (snd _ _ h) in
          ⊎_elim
          (λ a. subst (λ (y : Moved). Kept c k s y) (done_inj a.1)
          (record {
            ok = record {
              contents = gone.contents;
              few_lobby = o.few_lobby;
              lobby = o.lobby;
              few_shelf = few_shelf_of _ (at_limits a.1 lim);
              shelf = every_append _ s.shelf (v ∷ []) o.shelf (every_one (wf_value k) v val);
              whose = alt_right _ _ (fst _ _ a.0);
            };
            minted = refl;
            shelf = rw length_one (omega arith);
            taken = refl;
            said = refl;
          }))
          (λ a. subst (λ (y : Moved). Kept c k s y) (done_inj a.1)
          (record {
            ok = record {
              contents = gone.contents;
              few_lobby = few_lobby_of _ (at_limits a.1 lim);
              lobby = every_append _ s.lobby (record { status = arrived; chan = ch; val = v } ∷ []) o.lobby
                  (every_one (wf_in c k) (record { status = arrived; chan = ch; val = v }) (both _ _ val (both _ _ hc (not_both _ _ a.0))));
              few_shelf = o.few_shelf;
              shelf = o.shelf;
              whose = o.whose;
            };
            minted = refl;
            shelf = omega arith;
            taken = refl;
            said = refl;
          }))
          (choose_done _ _ _ _ f)
      from (suc b) ch v f h =
          let r = boxes_pick k s.contents.boxes 0 (suc b) _ _ f o.contents.boxes in
          let x = r.0 in
          let pn : ltb x.parent (0 + suc b) & held k x.name ≡ true = ⊎_elim (λ z. absurd (zero-no z)) (λ z. z) (alt _ _ r.2) in
          let lt : x.parent < length s.contents.boxes = omega (arith, ltb-true x.parent (0 + suc b) (fst _ _ pn), r.3) in
          subst (λ (y : Moved). Kept c k s y) (done_inj r.1)
          (record {
            ok = part_set i (output x.parent ch (from_child x.name) v) (both _ _ (lt-ltb _ _ lt) (both _ _ (fst _ _ (snd _ _ h)) (both _ _ (snd _ _ pn) (snd _ _ (snd _ _ (snd _ _ h))))));
            minted = refl;
            shelf = omega arith;
            taken = refl;
            said = refl;
          })
        where
          zero-no : eqb (0 + suc b) 0 ≡ true → ⊥
          zero-no z = let q = eqb-true (0 + suc b) 0 z in omega arith

      go : (p : Particle) → up_particle c s i p ≡ done m → wf_particle c.table k (length s.contents.boxes) p ≡ true → Kept c k s m
      go (input b n vs) f h = let z : ◌≡◌ {A = ℕ} 0 1 = cc in absurd (omega arith)
      go (output b ch g v) f h =
          let a = need_done _ _ _ _ f in
          from b ch v a.1 (both _ _ (fst _ _ h) (both _ _ (fst _ _ (snd _ _ h)) (both _ _ refl (snd _ _ (snd _ _ (snd _ _ h))))))

  -- a side takes a shelf value
  pub takes_keeps : (from : ℕ) (sh : List (List ℕ)) → every (wf_value k) sh ≡ true → (i : ℕ) (m : Moved) → takes from sh s i ≡ done m → limits m.core ≡ true →
      CoreOk c k m.core × (m.core.contents.minted ≡ s.contents.minted) × (m.core.taken ≡ set s.taken (taken_at from i) true) × (i < length sh) × Spoken c.wrapper.copies k m.label m.val
  unfolding takes wf_message held
  takes_keeps from sh h i m e lim =
      let (v, f, g, l) = pick_done _ _ _ _ e in
      let b = need_done _ _ _ _ f in
      let t : Message = record { status = down; chan = 2; val = v } in
      let down-wf = every_one (wf_in c k) t (both _ _ (g (wf_value k) h) (both _ _ (alt_left _ _ refl) (alt_right _ _ refl))) in
      subst
      (λ (y : Moved). CoreOk c k y.core × (y.core.contents.minted ≡ s.contents.minted) × (y.core.taken ≡ set s.taken (taken_at from i) true)
      × (i < length sh) × Spoken c.wrapper.copies k y.label y.val)
      (done_inj b.1)
      (lobby_more (t ∷ []) down-wf (set s.taken (taken_at from i) true) (at_limits b.1 lim), refl, refl, l, refl)
