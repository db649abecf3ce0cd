-- What the steps use of a side that they may act on; what makes a function's answer that of the model.
use mathlib.Core.Path.{◌≡◌, refl, sym, ap, subst, ◌∙◌}
use mathlib.Core.Logic.{◌≢◌}
use mathlib.Core.Bool.{Bool, true, false}
use mathlib.Core.List.{List, [], ◌∷◌, map}
use mathlib.Core.Option.{some}
use Prim.Native.Nat.{ℕ, zero, suc, ◌+◌, ◌<◌, ◌≤◌}
use native.Mathlib.Omega.{arith}
use borrow.Author.Tests.{ltb-true, leb-true, leb-false}
use lib.Dec.{leb}
use lib.ListN.{length, take, drop, get_or, get_elem?, length-take}
use lib.Seq.{drop-drop}
use Rattle.model.specs.Basics.{Res, refuse, done, every}
use Rattle.model.specs.Side.{Particle, output, input, Box, Core}
use Rattle.model.specs.Side.{Message as MMessage}
use Rattle.model.specs.Load.{Setting}
use Rattle.model.specs.WellFormed.{Counts, wf_core, wf_particle}
use Rattle.model.specs.Step.{Moved}
use Rattle.model.proofs.Basics.Tests.{fst, snd, both, every_mono}
use Rattle.model.proofs.Formed.Growing.{CoreOk, core_ok}
use Rattle.model.proofs.Formed.Invariant.{core_short, core_limits}
use Rattle.values.specs.declared.Value.{Value}
use Rattle.values.specs.Env.{view_value, Stores}
use Rattle.sides.specs.declared.Message.{Message}
use Rattle.sides.specs.Views.{view_message, view_lobby, fits_message, fits_lobby}
use Rattle.sides.proofs.Lists.{view_length, view_at}
use Rattle.sides.proofs.Lobbies.{lobby_length, lobby_at, lobby_fits_at, lobby_short, value_short}
use Rattle.sides.specs.declared.Rest.{Rest}
use Rattle.sides.specs.Layout.{parts, row_at, places_of, tag_in, view_place, fits_place, fits_row, view_rows, fits_rows, boxes_of, view_box, view_boxes, shelf_of, view_shelf, fits_shelf}
use Rattle.sides.specs.Sides.{core_of, fits_side}
use Rattle.sides.proofs.Reading.{boxes_count, shelf_count, place_short, first_place, first_fits}
use Rattle.sides.proofs.Viewing.{view_count, view_row_lem, fits_row_lem, output_view, input_view}
use Rattle.steps.specs.declared.Said.TheVariants as said
use Rattle.steps.specs.declared.Offer.{Offer}
use Rattle.steps.specs.declared.Offer.TheVariants.{At, Refused}
use Rattle.steps.specs.StepIs.{label_of, housed}
use Rattle.steps.specs.Asked.{OfferIs, OfferIf, number_of}
use Rattle.steps.proofs.CoreSteps.{quiet}
use Rattle.steps.specs.declared.RestStep.{RestStep}
use Rattle.steps.specs.StepIs.{Outcome, StepIs, Sane}
use Rattle.steps.specs.Asked.{Says, channel_in, value_in}

-- a limit test of one more: where it fails, and where it passes
pub none_more : (n k : ℕ) (r : Bool) → r ≡ leb (n + 1) k → r ≡ false → k ≤ n
none_more n k r e t = let z = leb-false (n + 1) k (sym e ∙ t) in omega (arith, z)

pub one_more : (n k : ℕ) (r : Bool) → r ≡ leb (n + 1) k → r ≡ true → n < k
one_more n k r e t = let z = leb-true (n + 1) k (sym e ∙ t) in omega (arith, z)

-- an element within a list, whatever would stand past its end
pub get_d_any : {A : Type 0} (l : List A) (i : ℕ) (d e : A) → i < length l → get_or l i d ≡ get_or l i e
get_d_any [] i d e h = absurd (omega arith)
get_d_any (x ∷ l) zero d e h = refl
get_d_any (x ∷ l) (suc i) d e h = get_d_any l i d e (omega arith)

-- there is an element within a list
pub elem_some : {A : Type 0} (l : List A) (i : ℕ) → i < length l → (x : A) × (get_elem? l i ≡ some x)
elem_some [] i h = absurd (omega arith)
elem_some (x ∷ l) zero h = (x, refl)
elem_some (x ∷ l) (suc i) h = elem_some l i (omega arith)

-- what every element passes, the one at a place passes
pub every_elem : {A : Type 0} (f : A → Bool) (l : List A) (i : ℕ) (x : A) → get_elem? l i ≡ some x → every f l ≡ true → f x ≡ true
every_elem f [] zero x e p = let z : ◌≡◌ {A = ℕ} 0 1 = cc in absurd (omega arith)
every_elem f [] (suc i) x e p = let z : ◌≡◌ {A = ℕ} 0 1 = cc in absurd (omega arith)
every_elem f (y ∷ l) zero x e p = let z : y ≡ x = cc in ap f (sym z) ∙ fst _ _ p
every_elem f (y ∷ l) (suc i) x e p = every_elem f l i x e (snd _ _ p)

-- how long a value's words are
pub words_short : (v : Value) → v.len ≤ 16 → length (view_value v) ≤ 16
words_short v h = omega (arith, length-take v.len v.words)

-- a well-formed side whose counts are within their arrays is one that the steps may act on
pub sane : (c : Setting) (k : Counts) (l : List ℕ) (o : Rest) → length l ≡ 5184 → fits_side l o ≡ true → wf_core c k (core_of l o) ≡ true → Sane l o
unfolding wf_particle
sane c k l o n f w =
    let ok : CoreOk c k (core_of l o) = core_ok c k (core_of l o) w in
    record {
      long = n;
      arrays = f;
      few = core_limits c k (core_of l o) ok;
      short_outputs = core_short c k (core_of l o) ok;
      homes = every_mono _ _ home (view_rows l o.particles) ok.contents.particles;
    }
  where
    home : (p : Particle) → wf_particle c.table k (length (view_boxes l o.boxes)) p ≡ true → housed (length (view_boxes l o.boxes)) p ≡ true
    home (output b ch g v) h = fst _ _ h
    home (input b n vs) h = fst _ _ h

-- what owning the rest of a side tells of its lobby's array
pub record Full (o : Rest) : Type 0 where
  pub msgs : length o.lobby.msgs ≡ 16

-- THE FOUR LISTS within their arrays
module _ (l : List ℕ) (o : Rest) (f : fits_side l o ≡ true) where
  pub side_rows : fits_rows l o.particles ≡ true
  side_rows = fst _ _ f

  pub side_boxes : o.boxes ≤ 16
  side_boxes = leb-true o.boxes 16 (fst _ _ (snd _ _ f))

  pub side_lobby : fits_lobby o.lobby ≡ true
  side_lobby = fst _ _ (snd _ _ (snd _ _ f))

  pub side_shelf : fits_shelf l o.shelved ≡ true
  side_shelf = snd _ _ (snd _ _ (snd _ _ f))

-- another side with the same number of boxes
pub side_again : (l m : List ℕ) (o t : Rest) → fits_side l o ≡ true → t.boxes ≡ o.boxes → fits_rows m t.particles ≡ true → fits_lobby t.lobby ≡ true → fits_shelf m t.shelved ≡ true → fits_side m t ≡ true
side_again l m o t f e a b c = both _ _ a (both _ _ (ap (λ (n : ℕ). leb n 16) e ∙ fst _ _ (snd _ _ f)) (both _ _ b c))

-- WHAT STANDS BEHIND THE ROWS
module _ (l m : List ℕ) (e : drop 4608 m ≡ drop 4608 l) where
  pub boxes_kept : (n : ℕ) → view_boxes m n ≡ view_boxes l n
  boxes_kept n = ap (λ (x : List ℕ). map view_box (take n (parts 2 16 x))) e

  places_kept : shelf_of m ≡ shelf_of l
  places_kept = ap (parts 17 32) (sym (drop-drop 32 4608 m) ∙ ap (drop 32) e ∙ drop-drop 32 4608 l)

  pub shelf_kept : (n : ℕ) → view_shelf m n ≡ view_shelf l n
  shelf_kept n = ap (λ (x : List (List ℕ)). map view_place (take n x)) places_kept

  pub shelf_fits_kept : (n : ℕ) → fits_shelf l n ≡ true → fits_shelf m n ≡ true
  shelf_fits_kept n f = both _ _ (fst _ _ f) (ap (λ (x : List (List ℕ)). every fits_place (take n x)) places_kept ∙ snd _ _ f)

-- a core by its four lists
pub same_core : {p q : List Particle} {a b : List Box} {x y : List MMessage} {h k : List (List ℕ)} (m : ℕ) (t : List Bool) → p ≡ q → a ≡ b → x ≡ y → h ≡ k →
    ◌≡◌ {A = Core} (record { contents = record { particles = p; boxes = a; minted = m }; lobby = x; shelf = h; taken = t })
    (record { contents = record { particles = q; boxes = b; minted = m }; lobby = y; shelf = k; taken = t })
same_core m t e f g i = rw (e, f, g, i)

module _ (l : List ℕ) (o : Rest) (ok : Sane l o) where
  pub rows_cap : o.particles ≤ 32
  rows_cap = leb-true o.particles 32 (fst _ _ (side_rows l o ok.arrays))

  pub rows_n : length (view_rows l o.particles) ≡ o.particles
  rows_n = view_count l o.particles rows_cap

  pub boxes_cap : o.boxes ≤ 16
  boxes_cap = side_boxes l o ok.arrays

  pub boxes_n : length (view_boxes l o.boxes) ≡ o.boxes
  boxes_n = view_length view_box (boxes_of l) o.boxes (rw (boxes_count l) boxes_cap)

  pub lobby_cap : o.lobby.len ≤ 16
  lobby_cap = lobby_short o.lobby (side_lobby l o ok.arrays)

  pub shelf_cap : o.shelved ≤ 32
  shelf_cap = leb-true o.shelved 32 (fst _ _ (side_shelf l o ok.arrays))

  pub shelf_n : length (view_shelf l o.shelved) ≡ o.shelved
  shelf_n = view_length view_place (shelf_of l) o.shelved (rw (shelf_count l) shelf_cap)

  -- a box
  pub box_at_lem : (j : ℕ) → j < o.boxes → get_elem? (view_boxes l o.boxes) j ≡ some (view_box (get_or (boxes_of l) j []))
  box_at_lem j h = view_at view_box (boxes_of l) o.boxes j [] h (rw (boxes_count l) boxes_cap)

  -- a row: an output, or a waiting input
  module _ (i : ℕ) (h : i < o.particles) where
    pub row_in : i < 32
    row_in = omega (arith, rows_cap)

    pub fits_at_lem : fits_row (row_at l i) ≡ true
    fits_at_lem = fits_row_lem l o.particles i h rows_cap (side_rows l o ok.arrays)

    pub input_at : get_or (row_at l i) 0 0 ≢ 1 → (b : ℕ) × (n : ℕ) × (vs : List (List ℕ)) × (get_elem? (view_rows l o.particles) i ≡ some (input b n vs))
    input_at e = (_, _, _, view_row_lem l o.particles i h rows_cap ∙ ap some (input_view (row_at l i) e))

    module _ (e : get_or (row_at l i) 0 0 ≡ 1) where
      pub output_at_lem : get_elem? (view_rows l o.particles) i ≡ some (output (get_or (row_at l i) 1 0) (channel_in l i) (tag_in (row_at l i)) (value_in l i))
      output_at_lem = view_row_lem l o.particles i h rows_cap ∙ ap some (output_view (row_at l i) e)

      -- its value
      pub value_in_place : fits_place (get_or (places_of (row_at l i)) 0 []) ≡ true
      value_in_place = ap fits_place (first_place (row_at l i)) ∙ first_fits (row_at l i) fits_at_lem e

      pub value_length : length (value_in l i) ≤ 16
      unfolding view_place
      value_length =
          let v : List ℕ = get_or (places_of (row_at l i)) 0 [] in
          omega (arith, place_short v value_in_place, length-take (get_or v 0 0) (drop 1 v))

      -- its box stands
      pub output_home : get_or (row_at l i) 1 0 < o.boxes
      output_home =
          let p = every_elem (housed (length (view_boxes l o.boxes))) (view_rows l o.particles) i _ output_at_lem ok.homes in
          omega (arith, ltb-true (get_or (row_at l i) 1 0) (length (view_boxes l o.boxes)) p, boxes_n)

  -- a message
  module _ (full : Full o) where
    pub lobby_n : length (view_lobby o.lobby) ≡ o.lobby.len
    lobby_n = lobby_length o.lobby full.msgs lobby_cap

    module _ (i : ℕ) (d : Message) (h : i < o.lobby.len) where
      pub message_at : get_elem? (view_lobby o.lobby) i ≡ some (view_message (get_or o.lobby.msgs i d))
      message_at = lobby_at o.lobby full.msgs lobby_cap i d h

      pub message_fits : fits_message (get_or o.lobby.msgs i d) ≡ true
      message_fits = lobby_fits_at o.lobby full.msgs lobby_cap i d h (side_lobby l o ok.arrays)

      pub message_short : (get_or o.lobby.msgs i d).value.len ≤ 16
      message_short = value_short (get_or o.lobby.msgs i d).value message_fits

      pub message_any : (e : Message) → get_or o.lobby.msgs i d ≡ get_or o.lobby.msgs i e
      message_any e = get_d_any o.lobby.msgs i d e (omega (arith, lobby_cap, full.msgs))

pub stored_none : (v : Value) → Stores [] v → v.len ≤ 16
stored_none v s = omega (arith, s.count)

-- a refusal beside the old words and the old rest
pub refused_is : (x : Res Moved) (l : List ℕ) (o : Rest) (n : ℕ) (r : RestStep) → x ≡ refuse n → Says (said.Refused n) o r → StepIs x l o l r
refused_is x l o n r e p = record {
  is = subst (λ (y : Res Moved). Outcome y l o l r) (sym e) (record { says = p.says; words = refl; kept = p.rest; value = p.value.words; short_value = stored_none r.value p.value });
}

-- what is said with a value, beside the words m and the rest t
pub said_is : (x : Res Moved) (d : Moved) (l m : List ℕ) (o t : Rest) (r : RestStep) → x ≡ done d → label_of r.said ≡ done d.label → view_value r.value ≡ d.val → r.value.len ≤ 16 →
    r.rest ≡ t → core_of m t ≡ d.core → length m ≡ length l → fits_side m t ≡ true → StepIs x l o m r
said_is x d l m o t r e s v n q c k f = record {
  is = subst (λ (y : Res Moved). Outcome y l o m r) (sym e) (record { says = s; value = v; short_value = n; core = ap (core_of m) q ∙ c; long = k; arrays = ap (fits_side m) q ∙ f });
}

-- a silent step to the words m and the rest t
pub quiet_is : (x : Res Moved) (k : Core) (l m : List ℕ) (o s t : Rest) (r : RestStep) → x ≡ done (quiet k) → Says said.Silent s r → s ≡ t → core_of m t ≡ k → length m ≡ length l → fits_side m t ≡ true → StepIs x l o m r
quiet_is x k l m o s t r e p q c n f = said_is x (quiet k) l m o t r e (ap label_of p.says) p.value.words (stored_none r.value p.value) (p.rest ∙ q) c n f

-- a check whose last test is Q
pub offer_last : (x : Res Moved) (i : ℕ) (P : ℕ → Type 0) (Q : Type 0) (n : ℕ) (a : Offer) → OfferIf Q i n a → (Q → P i) → ((Q → ⊥) → x ≡ refuse n) → OfferIs x i P a
offer_last x i P Q n (At k) (same, q) may full = (same, subst P (sym same) (may q))
offer_last x i P Q n (Refused k) (same, q) may full = full q ∙ ap refuse (sym same)

-- what is said of a check's refusal n
pub said_refused : {a : Offer} {n : ℕ} {o : Rest} {r : RestStep} → a ≡ Refused n → Says (said.Refused (number_of a)) o r → Says (said.Refused n) o r
said_refused {a} {n} {o} {r} e = subst (λ (y : Offer). Says (said.Refused (number_of y)) o r) e

-- a check's refusal, beside the old words and the old rest
pub offer_refused : {x : Res Moved} {a : Offer} {n : ℕ} {o : Rest} {r : RestStep} (l : List ℕ) → x ≡ refuse n → a ≡ Refused n → Says (said.Refused (number_of a)) o r → StepIs x l o l r
offer_refused {x} {a} {n} {o} {r} l e q p = refused_is x l o n r e (said_refused q p)
