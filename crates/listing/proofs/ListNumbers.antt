-- The numbers of the question: a count, or 22.
use mathlib.Core.Path.{◌≡◌, refl, sym, ap, ◌∙◌}
use mathlib.Core.Bool.{Bool, true, false}
use mathlib.Core.List.{List}
use Prim.Native.Nat.{ℕ, ◌<◌, ◌≤◌}
use borrow.Author.Tests.{le-leb, lt-leb, leb-true, leb-false}
use lib.Dec.{leb}
use lib.ListN.{length}
use Rattle.model.specs.Basics.{choose, Res, refuse, done, need}
use Rattle.model.proofs.Basics.Items.{clash}
use Rattle.model.proofs.Formed.Keeping.{done_inj}
use Rattle.listing.specs.Listing.{listing, listed_on, ListNumbers}
use Rattle.listing.proofs.ListLaws.{by_room}

refuse_inj : {k m : ℕ} → ◌≡◌ {A = Res ℕ} (refuse k) (refuse m) → k ≡ m
refuse_inj e = cc

module _ (ps lent : List ℕ) where
  abbrev room : Bool
  room = leb (length ps) (length lent)

  short_is : length lent < length ps → (listing ps lent ≡ refuse 22) × (listed_on ps lent ≡ lent)
  unfolding need choose
  short_is h = by_room ps lent false (lt-leb (length ps) (length lent) h)

  long_is : length ps ≤ length lent → listing ps lent ≡ done (length ps)
  unfolding need
  long_is h = (by_room ps lent true (le-leb (length ps) (length lent) h)).0

  is_short_lem : (k : ℕ) → listing ps lent ≡ refuse k → (k ≡ 22) × (length lent < length ps)
  is_short_lem k e = by room refl
    where
      by : (t : Bool) → room ≡ t → (k ≡ 22) × (length lent < length ps)
      by true q = absurd (clash (sym e ∙ long_is (leb-true (length ps) (length lent) q)))
      by false q = let h = leb-false (length ps) (length lent) q in (refuse_inj (sym e ∙ (short_is h).0), h)

  is_long : (n : ℕ) → listing ps lent ≡ done n → (n ≡ length ps) × (length ps ≤ length lent)
  is_long n e = by room refl
    where
      by : (t : Bool) → room ≡ t → (n ≡ length ps) × (length ps ≤ length lent)
      by true q = let h = leb-true (length ps) (length lent) q in (done_inj (sym e ∙ long_is h), h)
      by false q = absurd (clash (sym (short_is (leb-false (length ps) (length lent) q)).0 ∙ e))

pub list_numbers : ListNumbers
unfolding ListNumbers
list_numbers ps lent = (
  (λ k. (is_short_lem ps lent k, (λ h. (short_is ps lent h.1).0 ∙ ap refuse (sym h.0)))),
  (λ n. (is_long ps lent n, (λ h. long_is ps lent h.1 ∙ ap done (sym h.0)))),
  (λ h. (short_is ps lent h).1),
)
