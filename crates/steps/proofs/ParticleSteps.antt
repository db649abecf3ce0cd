-- Up and descend: a law for each way that the code goes.
use mathlib.Core.Path.{◌≡◌, refl, sym, ap, ap₂, subst, ◌∙◌}
use mathlib.Core.Bool.{true, false}
use mathlib.Core.List.{List, [], ◌∷◌, ◌++◌, map}
use Prim.Native.Nat.{ℕ, ◌+◌, ◌-◌, ◌*◌, ◌<◌, ◌≤◌}
use native.Mathlib.Omega.{arith}
use lib.Dec.{leb}
use lib.ListN.{length, take, get_or}
use Rattle.model.specs.Basics.{◌&◌, Res, refuse, done, every, remove}
use Rattle.model.specs.Side.{output, arrived}
use Rattle.model.specs.Load.{Setting}
use Rattle.model.specs.Wrapper.{shelves}
use Rattle.model.specs.Step.{Moved, is_to_parent, is_to_child, up, descend, settled}
use Rattle.model.proofs.Basics.Tests.{both}
use Rattle.values.specs.declared.Value.{Value}
use Rattle.values.specs.Env.{view_value}
use Rattle.sides.specs.declared.Status.TheVariants.{Arrived}
use Rattle.sides.specs.declared.Tag.{Tag}
use Rattle.sides.specs.declared.Tag.TheVariants.{FromParent, FromChild}
use Rattle.sides.specs.declared.Message.{Message}
use Rattle.sides.specs.declared.Lobby.{Lobby}
use Rattle.sides.specs.Views.{view_tag, view_message, view_lobby, fits_message, fits_lobby}
use Rattle.sides.specs.Holding.{LobbyIs}
use Rattle.sides.proofs.Lobbies.{value_fits}
use Rattle.sides.specs.declared.Rest.{Rest}
use Rattle.sides.specs.Layout.{row_at, tag_in, view_row, fits_row, view_rows, fits_rows, boxes_of, view_box, ValueIs}
use Rattle.sides.specs.Stored.{moved_to, row_gone, shelf_put}
use Rattle.sides.specs.Sides.{core_of, fits_side}
use Rattle.sides.proofs.Storing.{moved_length, gone_length, shelf_length}
use Rattle.sides.proofs.Putting.{moved_put, put_view, put_fits, gone_view, gone_fits}
use Rattle.sides.proofs.Behind.{behind_moved, behind_gone, shelf_rows, shelf_boxes, shelf_view, shelf_more_fits}
use Rattle.steps.specs.declared.Said.TheVariants as said
use Rattle.steps.proofs.CoreSteps as core
use Rattle.steps.proofs.Held.{elem_some}
use Rattle.steps.specs.declared.RestStep.{RestStep}
use Rattle.steps.specs.StepIs.{StepIs, Sane}
use Rattle.steps.specs.Asked.{Says, channel_in, value_in, goes_to_shelf, up_by, UpAt, DescendAt}
use Rattle.steps.proofs.Held.{Full, side_rows, side_lobby, side_shelf, side_again, boxes_kept, shelf_kept, shelf_fits_kept, same_core, rows_cap, rows_n}
use Rattle.steps.proofs.Held.{boxes_n, shelf_n, lobby_n, box_at_lem, row_in, fits_at_lem, input_at, output_at_lem, value_length, refused_is, quiet_is}

module _ (l : List ℕ) (o : Rest) (i : ℕ) (ok : Sane l o) where
  pub up_past : (c : Setting) → o.particles ≤ i → settled (up c (core_of l o) i) ≡ refuse 10
  up_past c h = core.up_10 (core_of l o) ok.short_outputs ok.few c i (rw (rows_n l o ok) h)

  pub descend_past : (j : ℕ) → o.particles ≤ i → settled (descend (core_of l o) i j) ≡ refuse 10
  descend_past j h = core.descend_10 (core_of l o) ok.short_outputs ok.few i j (rw (rows_n l o ok) h)

  module _ (h : i < o.particles) where
    pub up_no_output : (c : Setting) → (get_or (row_at l i) 0 0 ≡ 1 → ⊥) → settled (up c (core_of l o) i) ≡ refuse 13
    up_no_output c e = let p = input_at l o ok i h e in core.up_input (core_of l o) ok.short_outputs ok.few c i _ _ _ p.3

    pub up_not : (c : Setting) → get_or (row_at l i) 0 0 ≡ 1 → is_to_parent (tag_in (row_at l i)) ≡ false → settled (up c (core_of l o) i) ≡ refuse 13
    up_not c e t = core.up_13 (core_of l o) ok.short_outputs ok.few c i _ _ _ _ (output_at_lem l o ok i h e) t

    module _ (j : ℕ) where
      pub descend_no_box : o.boxes ≤ j → settled (descend (core_of l o) i j) ≡ refuse 10
      descend_no_box b =
          let p = elem_some (view_rows l o.particles) i (rw (rows_n l o ok) h) in
          core.descend_10_box (core_of l o) ok.short_outputs ok.few i j p.0 p.1 (rw (boxes_n l o ok) b)

      module _ (b : j < o.boxes) where
        pub descend_no_output : (get_or (row_at l i) 0 0 ≡ 1 → ⊥) → settled (descend (core_of l o) i j) ≡ refuse 13
        descend_no_output e = let p = input_at l o ok i h e in core.descend_input (core_of l o) ok.short_outputs ok.few i j _ _ _ _ p.3 (box_at_lem l o ok j b)

        module _ (e : get_or (row_at l i) 0 0 ≡ 1) where
          pub descend_handler_box : j ≡ 0 → settled (descend (core_of l o) i j) ≡ refuse 13
          descend_handler_box z = core.descend_13_handler_box (core_of l o) ok.short_outputs ok.few i j _ _ _ _ _ (output_at_lem l o ok i h e) (box_at_lem l o ok j b) z

          pub descend_parent : ((view_box (get_or (boxes_of l) j [])).parent ≡ get_or (row_at l i) 1 0 → ⊥) → settled (descend (core_of l o) i j) ≡ refuse 13
          descend_parent n = core.descend_13_parent (core_of l o) ok.short_outputs ok.few i j _ _ _ _ _ (output_at_lem l o ok i h e) (box_at_lem l o ok j b) n

          pub descend_name : is_to_child (tag_in (row_at l i)) (view_box (get_or (boxes_of l) j [])).name ≡ false → settled (descend (core_of l o) i j) ≡ refuse 13
          descend_name n = core.descend_13_name (core_of l o) ok.short_outputs ok.few i j _ _ _ _ _ (output_at_lem l o ok i h e) (box_at_lem l o ok j b) n

-- AN OUTPUT MOVED to another box, with another tag
module _ (l : List ℕ) (o : Rest) (i : ℕ) (ok : Sane l o) (h : i < o.particles) (e : get_or (row_at l i) 0 0 ≡ 1) (r : RestStep) where
  moved_is : (x : Res Moved) (box : ℕ) (t : Tag) (m : List ℕ) → x ≡ done (core.quiet (core.put_core (core_of l o) i (output box (channel_in l i) (view_tag t) (value_in l i)))) →
      m ≡ moved_to l (144 * i) box t → Says said.Silent o r → StepIs x l o m r
  moved_is x box t m q p says =
      let w : List ℕ = moved_to l (144 * i) box t in
      let rp = moved_put l i box t ok.long (row_in l o ok i h) e (fits_at_lem l o ok i h) in
      let b = behind_moved l i box t (row_in l o ok i h) in
      let fits : fits_side w o ≡ true =
      side_again l w o o ok.arrays refl (put_fits l w i _ rp o.particles h (side_rows l o ok.arrays)) (side_lobby l o ok.arrays)
      (shelf_fits_kept l w b o.shelved (side_shelf l o ok.arrays)) in
      let is = same_core o.minted o.taken (put_view l w i _ rp o.particles h) (boxes_kept l w b o.boxes) refl (shelf_kept l w b o.shelved) in
      subst (λ (z : List ℕ). StepIs x l o z r) (sym p) (quiet_is x _ l w o o o r q says refl is (moved_length l (144 * i) box t) fits)

  -- out of box b to its parent
  pub box_did : (c : Setting) (b parent name : ℕ) (m : List ℕ) → 0 < b → b < o.boxes → parent ≡ (view_box (get_or (boxes_of l) b [])).parent → name ≡ (view_box (get_or (boxes_of l) b [])).name →
      m ≡ moved_to l (144 * i) parent (FromChild name) →
      Says said.Silent o r →
      StepIs (up_by c l o i b (channel_in l i)) l o m r
  box_did c b parent name m z k pe ne me says =
      let d = core.box_done (core_of l o) ok.short_outputs ok.few c i b (channel_in l i) (value_in l i) _ z (box_at_lem l o ok b k) (value_length l o ok i h e) in
      moved_is _ _ (FromChild (view_box (get_or (boxes_of l) b [])).name) m d
      (me ∙ ap (λ (x : ℕ). moved_to l (144 * i) x (FromChild name)) pe ∙ ap (λ (x : ℕ). moved_to l (144 * i) (view_box (get_or (boxes_of l) b [])).parent (FromChild x)) ne) says

  -- A ROW GONE: the particle's value v has been read
  module _ (c : Setting) (v : Value) (vi : ValueIs (value_in l i) v) (m : List ℕ) (n : ℕ) where
    pub lobby_did : (ch : ℕ) (g : Message) (y : Lobby) (k : ℕ) → goes_to_shelf c (channel_in l i) ≡ false → Full o → o.lobby.len < 16 →
        ch ≡ channel_in l i →
        g ≡ record { status = Arrived; channel = ch; value = v } →
        (n ≡ o.particles - 1) × (m ≡ row_gone l i o.particles) →
        LobbyIs (view_lobby o.lobby ++ (view_message g ∷ [])) k (fits_lobby o.lobby & fits_message g) y →
        Says said.Silent (record { particles = n; boxes = o.boxes; shelved = o.shelved; minted = o.minted; lobby = y; taken = o.taken }) r →
        StepIs (up_by c l o i 0 (channel_in l i)) l o m r
    lobby_did ch g y k off full room che ge gone ys says =
        let w : List ℕ = row_gone l i o.particles in
        let cap = rows_cap l o ok in
        let b = behind_gone l i o.particles h cap in
        let d = core.lobby_done (core_of l o) ok.short_outputs ok.few c i (channel_in l i) (value_in l i) off (rw (lobby_n l o ok full) room) in
        let after : ℕ → Rest = λ z. record { particles = z; boxes = o.boxes; shelved = o.shelved; minted = o.minted; lobby = y; taken = o.taken } in
        let u : Rest = after (o.particles - 1) in
        let fits : fits_side w u ≡ true =
        side_again l w o u ok.arrays refl (gone_fits l i o.particles ok.long h cap (side_rows l o ok.arrays))
        (ys.fits (both _ _ (side_lobby l o ok.arrays) (ap fits_message ge ∙ value_fits v vi.short))) (shelf_fits_kept l w b o.shelved (side_shelf l o ok.arrays)) in
        let sent = ap (λ (x : Message). view_lobby o.lobby ++ (view_message x ∷ [])) (ge ∙ ap (λ (x : ℕ). record { status = Arrived; channel = x; value = v }) che) ∙
        ap (λ (x : List ℕ). view_lobby o.lobby ++ (record { status = arrived; chan = channel_in l i; val = x } ∷ [])) vi.view in
        let is = same_core o.minted o.taken (gone_view l i o.particles ok.long h cap) (boxes_kept l w b o.boxes) (ys.view ∙ sent) (shelf_kept l w b o.shelved) in
        subst (λ (z : List ℕ). StepIs (up_by c l o i 0 (channel_in l i)) l o z r) (sym gone.1)
        (quiet_is _ _ l w o (after n) u r d says (ap after gone.0) is (gone_length l i o.particles) fits)

    pub shelf_did : (p : ℕ) (w : List ℕ) → shelves c.wrapper c.side ≡ true → p ≡ o.shelved → o.shelved < 32 →
        w ≡ shelf_put l p (view_value v) →
        (n ≡ o.particles - 1) × (m ≡ row_gone w i o.particles) →
        Says said.Silent (record { particles = n; boxes = o.boxes; shelved = p + 1; minted = o.minted; lobby = o.lobby; taken = o.taken }) r →
        StepIs (up_by c l o i 0 2) l o m r
    shelf_did p w on pe room we gone says =
        let x : List ℕ = value_in l i in
        let a : List ℕ = shelf_put l o.shelved x in
        let z : List ℕ = row_gone a i o.particles in
        let cap = rows_cap l o ok in
        let b = behind_gone a i o.particles h cap in
        let al : length a ≡ 5184 = shelf_length l o.shelved x ∙ ok.long in
        let few = value_length l o ok i h e in
        let d = core.shelf_done (core_of l o) ok.short_outputs ok.few c i x on (rw (shelf_n l o ok) room) in
        let after : ℕ → ℕ → Rest = λ c k. record { particles = c; boxes = o.boxes; shelved = k + 1; minted = o.minted; lobby = o.lobby; taken = o.taken } in
        let u : Rest = after (o.particles - 1) o.shelved in
        let rows_fit : fits_rows a o.particles ≡ true = ap (λ (y : List (List ℕ)). leb o.particles 32 & every fits_row (take o.particles y)) (shelf_rows l o.shelved x) ∙ side_rows l o ok.arrays in
        let fits : fits_side z u ≡ true =
        side_again l z o u ok.arrays refl (gone_fits a i o.particles al h cap rows_fit) (side_lobby l o ok.arrays)
        (shelf_fits_kept a z b (o.shelved + 1) (shelf_more_fits l o.shelved x ok.long room few (side_shelf l o ok.arrays))) in
        let ps = gone_view a i o.particles al h cap ∙ ap (λ (y : List (List ℕ)). remove (map view_row (take o.particles y)) i) (shelf_rows l o.shelved x) in
        let bs = boxes_kept a z b o.boxes ∙ ap (λ (y : List (List ℕ)). map view_box (take o.boxes y)) (shelf_boxes l o.shelved x) in
        let hs = shelf_kept a z b (o.shelved + 1) ∙ shelf_view l o.shelved x ok.long room few in
        let words : m ≡ z = gone.1 ∙ ap (λ (y : List ℕ). row_gone y i o.particles) (we ∙ ap (λ (y : ℕ). shelf_put l y (view_value v)) pe ∙ ap (shelf_put l o.shelved) vi.view) in
        subst (λ (y : List ℕ). StepIs (up_by c l o i 0 2) l o y r) (sym words)
        (quiet_is _ _ l z o (after n p) u r d says (ap₂ after gone.0 pe) (same_core o.minted o.taken ps bs refl hs)
        (gone_length a i o.particles ∙ shelf_length l o.shelved x) fits)

-- to the lobby: position k is the i that was asked for
pub lobby_same : (l : List ℕ) (o : Rest) (c : Setting) (m : List ℕ) (r : RestStep) (i k : ℕ) → k ≡ i → (goes_to_shelf c (channel_in l k) ≡ false → StepIs (up_by c l o k 0 (channel_in l k)) l o m r) →
    goes_to_shelf c (channel_in l i) ≡ false → StepIs (up_by c l o i 0 (channel_in l i)) l o m r
lobby_same l o c m r i k same = subst (λ (y : ℕ). goes_to_shelf c (channel_in l y) ≡ false → StepIs (up_by c l o y 0 (channel_in l y)) l o m r) same

-- no room
module _ (l : List ℕ) (o : Rest) (i : ℕ) (ok : Sane l o) (c : Setting) (r : RestStep) (k : ℕ) (is : k ≡ 17) (says : Says (said.Refused k) o r) where
  pub shelf_full : shelves c.wrapper c.side ≡ true → (o.shelved < 32 → ⊥) → StepIs (up_by c l o i 0 2) l o l r
  shelf_full on h =
      let full : 32 ≤ o.shelved = omega (arith, h) in
      refused_is _ l o k r (core.shelf_17 (core_of l o) ok.short_outputs ok.few c i (value_in l i) on (rw (shelf_n l o ok) full) ∙ ap refuse (sym is)) says

  pub lobby_full : (ch : ℕ) → goes_to_shelf c ch ≡ false → Full o → (o.lobby.len < 16 → ⊥) → StepIs (up_by c l o i 0 ch) l o l r
  lobby_full ch off held h =
      let full : 16 ≤ o.lobby.len = omega (arith, h) in
      refused_is _ l o k r (core.lobby_17 (core_of l o) ok.short_outputs ok.few c i ch (value_in l i) off (rw (lobby_n l o ok held) full) ∙ ap refuse (sym is)) says

-- up, by the way that the output goes: b is its box
module _ (l : List ℕ) (o : Rest) (i k : ℕ) (same : k ≡ i) (ok : Sane l o) (c : Setting) (r : RestStep) (m : List ℕ) (a : UpAt l o k) (b : ℕ) (be : b ≡ get_or (row_at l k) 1 0) where
  pub up_box : StepIs (up_by c l o k b (channel_in l k)) l o m r → StepIs (settled (up c (core_of l o) i)) l o m r
  up_box x =
      subst (λ (y : ℕ). StepIs (settled (up c (core_of l o) y)) l o m r) same
      (rw (core.up_from_lem (core_of l o) ok.short_outputs ok.few c k _ _ _ _ (output_at_lem l o ok k a.held a.is) a.tag)
      (subst (λ (y : ℕ). StepIs (up_by c l o k y (channel_in l k)) l o m r) be x))

  pub up_lobby : b ≤ 0 → StepIs (up_by c l o k 0 (channel_in l k)) l o m r → StepIs (settled (up c (core_of l o) i)) l o m r
  up_lobby z x = let e : 0 ≡ b = omega arith in up_box (subst (λ (y : ℕ). StepIs (up_by c l o k y (channel_in l k)) l o m r) e x)

  pub up_shelf : b ≤ 0 → channel_in l k ≡ 2 → StepIs (up_by c l o k 0 2) l o m r → StepIs (settled (up c (core_of l o) i)) l o m r
  up_shelf z e x = up_lobby z (subst (λ (y : ℕ). StepIs (up_by c l o k 0 y) l o m r) (sym e) x)

-- descend
pub descend_did : (l : List ℕ) (o : Rest) (i k j : ℕ) → k ≡ i → (ok : Sane l o) (r : RestStep) (m : List ℕ) → DescendAt l o j k → m ≡ moved_to l (144 * k) j FromParent → Says said.Silent o r →
    StepIs (settled (descend (core_of l o) i j)) l o m r
descend_did l o i k j same ok r m a me says =
    let d = core.descend_done (core_of l o) ok.short_outputs ok.few k j _ _ _ _ _ (output_at_lem l o ok k a.held a.is) (box_at_lem l o ok j a.box) a.inner a.parent a.tag
    (value_length l o ok k a.held a.is) in
    subst (λ (x : ℕ). StepIs (settled (descend (core_of l o) x j)) l o m r) same (moved_is l o k ok a.held a.is r _ j FromParent m d me says)
