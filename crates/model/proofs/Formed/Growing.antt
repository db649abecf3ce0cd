-- Well-formedness as facts; what is well formed stays so as counts grow.
use mathlib.Core.Path.{◌≡◌, refl}
use mathlib.Core.Bool.{Bool, true, false}
use mathlib.Core.List.{List, [], ◌∷◌}
use mathlib.Core.Logic.{⊎_elim}
use Prim.Native.Nat.{ℕ, suc, ◌+◌, ◌/◌, ◌%◌, ◌≤◌}
use native.Mathlib.Omega.{arith}
use borrow.Author.Tests.{leb-true, ltb-true, le-leb, lt-ltb}
use lib.Dec.{ltb, eqb}
use lib.ListN.{length}
use Rattle.model.specs.Basics.{◌or◌, every}
use Rattle.model.specs.Values.{serial, side_of}
use Rattle.model.specs.Table.{Table}
use Rattle.model.specs.Side.{Tag, within, to_parent, from_parent, to_child, from_child, Particle, output, input, Box, Message, Contents, Core, within_limits, limits}
use Rattle.model.specs.Wrapper.{shelves}
use Rattle.model.specs.Load.{Setting}
use Rattle.model.specs.WellFormed.{Counts, count_of, held, held_word, wf_value, wf_tag, wf_particle, wf_boxes, wf_message, wf_left, wf_contents, wf_core}
use Rattle.model.proofs.Basics.Tests.{fst, snd, both, alt, alt_left, alt_right, every_mono}
use Rattle.model.proofs.Basics.Names.{Held, is_public_lem, is_outside_lem, is_minted_lem, held_cases, held_of}

abbrev pub Le : Counts → Counts → Type 0
Le k k' = (n : ℕ) → count_of k n ≤ count_of k' n

pub less : (a b c : ℕ) → ltb a b ≡ true → b ≤ c → ltb a c ≡ true
less a b c e h = lt-ltb a c (omega (arith, ltb-true a b e))

module _ (k k' : Counts) (h : Le k k') where
  pub held_mono : (w : ℕ) → held k w ≡ true → held k' w ≡ true
  held_mono w e = go (held_cases k w e)
    where
      go : Held k w → held k' w ≡ true
      go (is_public_lem p) = held_of k' w (is_public_lem p)
      go (is_outside_lem p) = held_of k' w (is_outside_lem p)
      go (is_minted_lem p) = held_of k' w (is_minted_lem (both _ _ (fst _ _ p) (less (serial w) (count_of k (side_of w)) (count_of k' (side_of w)) (snd _ _ p) (h (side_of w)))))

  pub held_word_mono : (w : ℕ) → held_word k w ≡ true → held_word k' w ≡ true
  unfolding held_word
  held_word_mono w e = ⊎_elim (λ p. alt_left _ _ p) (λ p. alt_right _ _ (held_mono w p)) (alt _ _ e)

  pub wf_val_mono : (v : List ℕ) → wf_value k v ≡ true → wf_value k' v ≡ true
  unfolding wf_value
  wf_val_mono v e = both _ _ (fst _ _ e) (every_mono _ _ held_word_mono v (snd _ _ e))

  pub wf_tag_mono : (g : Tag) → wf_tag k g ≡ true → wf_tag k' g ≡ true
  unfolding wf_tag
  wf_tag_mono within e = refl
  wf_tag_mono to_parent e = refl
  wf_tag_mono from_parent e = refl
  wf_tag_mono (to_child n) e = held_mono n e
  wf_tag_mono (from_child n) e = held_mono n e

  pub wf_part_mono : (t : Table) (nb nb' : ℕ) → nb ≤ nb' → (p : Particle) → wf_particle t k nb p ≡ true → wf_particle t k' nb' p ≡ true
  unfolding wf_particle
  wf_part_mono t nb nb' l (output b c g v) e =
      both _ _ (less b nb nb' (fst _ _ e) l)
      (both _ _ (held_mono c (fst _ _ (snd _ _ e))) (both _ _ (wf_tag_mono g (fst _ _ (snd _ _ (snd _ _ e)))) (wf_val_mono v (snd _ _ (snd _ _ (snd _ _ e))))))
  wf_part_mono t nb nb' l (input b n vs) e =
      both _ _ (less b nb nb' (fst _ _ e) l)
      (both _ _ (fst _ _ (snd _ _ e)) (both _ _ (fst _ _ (snd _ _ (snd _ _ e))) (both _ _ (fst _ _ (snd _ _ (snd _ _ (snd _ _ e))))
      (both _ _ (every_mono _ _ wf_val_mono vs (fst _ _ (snd _ _ (snd _ _ (snd _ _ (snd _ _ e)))))) (snd _ _ (snd _ _ (snd _ _ (snd _ _ (snd _ _ e)))))))))

  pub wf_boxes_mono : (l : List Box) (i : ℕ) → wf_boxes k i l ≡ true → wf_boxes k' i l ≡ true
  unfolding wf_boxes
  wf_boxes_mono [] i e = refl
  wf_boxes_mono (x ∷ xs) i e =
      both _ _ (⊎_elim (λ p. alt_left _ _ p) (λ p. alt_right _ _ (both _ _ (fst _ _ p) (held_mono x.name (snd _ _ p)))) (alt _ _ (fst _ _ e)))
      (wf_boxes_mono xs (i + 1) (snd _ _ e))

  pub wf_msg_mono : (b : Bool) (cs : List ℕ) (m : Message) → wf_message b cs k m ≡ true → wf_message b cs k' m ≡ true
  unfolding wf_message
  wf_msg_mono b cs m e = both _ _ (wf_val_mono m.val (fst _ _ e)) (both _ _ (held_mono m.chan (fst _ _ (snd _ _ e))) (snd _ _ (snd _ _ e)))

  pub wf_left_mono : (l : List Bool) (i : ℕ) → wf_left k i l ≡ true → wf_left k' i l ≡ true
  unfolding wf_left
  wf_left_mono [] i e = refl
  wf_left_mono (false ∷ xs) i e = both _ _ refl (wf_left_mono xs (i + 1) (snd _ _ e))
  wf_left_mono (true ∷ xs) i e = both _ _ (less (i % 256) (count_of k (suc (i / 256))) (count_of k' (suc (i / 256))) (fst _ _ e) (h (suc (i / 256)))) (wf_left_mono xs (i + 1) (snd _ _ e))

-- the well-formedness of contents and of a core, as facts
pub record ContentsOk (t : Table) (k : Counts) (s : Contents) : Type 0 where
  pub few : within_limits s ≡ true
  pub box0 : 1 ≤ length s.boxes
  pub boxes : wf_boxes k 0 s.boxes ≡ true
  pub particles : every (wf_particle t k (length s.boxes)) s.particles ≡ true

-- a lobby message of a side
abbrev pub wf_in : Setting → Counts → Message → Bool
wf_in c k = wf_message (shelves c.wrapper c.side) c.wrapper.copies k

pub record CoreOk (c : Setting) (k : Counts) (s : Core) : Type 0 where
  pub contents : ContentsOk c.table k s.contents
  pub few_lobby : length s.lobby ≤ 16
  pub lobby : every (wf_in c k) s.lobby ≡ true
  pub few_shelf : length s.shelf ≤ 32
  pub shelf : every (wf_value k) s.shelf ≡ true
  pub whose : eqb (length s.shelf) 0 or shelves c.wrapper c.side ≡ true

pub core_ok : (c : Setting) (k : Counts) (s : Core) → wf_core c k s ≡ true → CoreOk c k s
unfolding wf_core wf_contents limits
core_ok c k s e = record {
  contents = (let p = fst _ _ (snd _ _ e) in record { few = fst _ _ (fst _ _ e); box0 = leb-true 1 (length s.contents.boxes) (fst _ _ p); boxes = fst _ _ (snd _ _ p); particles = snd _ _ (snd _ _ p) });
  few_lobby = leb-true (length s.lobby) 16 (fst _ _ (snd _ _ (fst _ _ e)));
  lobby = fst _ _ (snd _ _ (snd _ _ e));
  few_shelf = leb-true (length s.shelf) 32 (snd _ _ (snd _ _ (fst _ _ e)));
  shelf = fst _ _ (snd _ _ (snd _ _ (snd _ _ e)));
  whose = snd _ _ (snd _ _ (snd _ _ (snd _ _ e)));
}

pub core_wf : (c : Setting) (k : Counts) (s : Core) → CoreOk c k s → wf_core c k s ≡ true
unfolding wf_core wf_contents limits
core_wf c k s o =
    both _ _ (both _ _ o.contents.few (both _ _ (le-leb _ _ o.few_lobby) (le-leb _ _ o.few_shelf)))
    (both _ _ (both _ _ (le-leb _ _ o.contents.box0) (both _ _ o.contents.boxes o.contents.particles))
    (both _ _ o.lobby (both _ _ o.shelf o.whose)))

pub core_mono : (c : Setting) (k k' : Counts) → Le k k' → (s : Core) → CoreOk c k s → CoreOk c k' s
core_mono c k k' h s o = record {
  contents = record {
    few = o.contents.few;
    box0 = o.contents.box0;
    boxes = wf_boxes_mono k k' h s.contents.boxes 0 o.contents.boxes;
    particles = every_mono _ _ (wf_part_mono k k' h c.table (length s.contents.boxes) (length s.contents.boxes) (omega arith)) s.contents.particles o.contents.particles;
  };
  few_lobby = o.few_lobby;
  lobby = every_mono _ _ (wf_msg_mono k k' h (shelves c.wrapper c.side) c.wrapper.copies) s.lobby o.lobby;
  few_shelf = o.few_shelf;
  shelf = every_mono _ _ (wf_val_mono k k' h) s.shelf o.shelf;
  whose = o.whose;
}
