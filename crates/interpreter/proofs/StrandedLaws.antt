-- The lobby that `stranded` asks, in a struct.
use mathlib.Core.Path.{◌≡◌, refl, sym, ap, subst, ◌∙◌}
use mathlib.Core.Bool.{Bool, true, false, false≢true}
use mathlib.Core.List.{List, []}
use mathlib.Core.Option.{Option, some}
use Prim.Native.Nat.{ℕ, ◌-◌, ◌≤◌, ◌<◌}
use native.Mathlib.Omega.{arith}
use lib.ListN.{length, get_or}
use Rattle.model.specs.Basics.{◌&◌}
use Rattle.model.specs.Side.{Message, no_side, side}
use Rattle.model.specs.Side.{Side as MSide, State as MState}
use Rattle.model.specs.Wrapper.{all_sides, has_side}
use Rattle.model.specs.Load.{Composition, wrapper_of}
use Rattle.model.specs.WellFormed.{ready}
use Rattle.model.specs.Stranded.{lobby_asked, stranded_from}
use Rattle.model.proofs.Basics.Tests.{both}
use Rattle.model.proofs.Stranded.Listed as model
use Rattle.sides.specs.Views.{view_lobby}
use Rattle.sides.proofs.Lobbies.{lobby_short}
use Rattle.sides.specs.declared.Side.{Side}
use Rattle.sides.specs.declared.State.{State}
use Rattle.sides.specs.Sides.{fits_side, view_side, view_state, state_of, fits_arrays}
use Rattle.listing.specs.declared.TooShort.{TooShort}
use Rattle.std.specs.Prelude.{Result}
use Rattle.listing.specs.Listing.{ListedIs}
use Rattle.loading.proofs.Faults.{map_at}
use Rattle.loading.proofs.Starting.{has_number, has_place}
use Rattle.steps.proofs.Held.{side_lobby}
use Rattle.dispatch.proofs.AllSides.{side_by_lem}
use Rattle.interpreter.proofs.StepLaws.{state_some, state_none, every_in}

module _ (b : Composition) (s : State) (n : ℕ) where
  -- of a struct that is a state
  of_state : fits_arrays s ≡ true → lobby_asked b (state_of s) n ≡ lobby_asked b (some (view_state s)) n
  of_state f = ap (λ (o : Option MState). lobby_asked b o n) (state_some s f)

  pub asked_unready : fits_arrays s & ready b (view_state s) ≡ false → lobby_asked b (state_of s) n ≡ []
  unfolding lobby_asked
  asked_unready e = go (fits_arrays s) refl (ready b (view_state s)) refl
    where
      go : (p : Bool) → fits_arrays s ≡ p → (q : Bool) → ready b (view_state s) ≡ q → lobby_asked b (state_of s) n ≡ []
      go false p q z = ap (λ (o : Option MState). lobby_asked b o n) (state_none s p)
      go true p false z = of_state p ∙ model.asked_unready b (view_state s) n z
      go true p true z = absurd (false≢true (sym e ∙ both _ _ p z))

  module _ (f : fits_arrays s ≡ true) where
    pub asked_lacks : has_side (wrapper_of b) n ≡ false → lobby_asked b (state_of s) n ≡ []
    asked_lacks h = of_state f ∙ model.asked_lacks b (view_state s) n h

    -- a side that the wrapper has, by its place
    module _ (d : Side) (full : length s.sides ≡ length all_sides) (h : has_side (wrapper_of b) n ≡ true) (k : ℕ) (z : k ≡ n - 1) where
      place : k < length s.sides
      place = omega (arith, has_place b.wrapper n h, full)

      pub asked_has : ready b (view_state s) ≡ true → view_lobby (get_or s.sides k d).rest.lobby ≡ lobby_asked b (state_of s) n
      asked_has e =
          let there : view_side (get_or s.sides k d) ≡ side (view_state s) n =
          map_at view_side s.sides k d no_side place ∙ ap (λ (j : ℕ). get_or (view_state s).sides j no_side) z ∙ sym (side_by_lem (view_state s) n (has_number b.wrapper n h).0) in
          ap (λ (o : MSide). o.core.lobby) there ∙ sym (of_state f ∙ model.asked_has b (view_state s) n e h)

      pub asked_short : (get_or s.sides k d).rest.lobby.len ≤ 16
      asked_short =
          let o : Side = get_or s.sides k d in
          let g : fits_side o.words o.rest ≡ true = every_in (λ (x : Side). fits_side x.words x.rest) s.sides k d place f in
          lobby_short o.rest.lobby (side_lobby o.words o.rest g)

-- the positions of the lobby that is asked
pub listed_as : {l m : List Message} {lent new : List ℕ} {r : Result ℕ TooShort} → l ≡ m → ListedIs (stranded_from 0 l) lent new r → ListedIs (stranded_from 0 m) lent new r
listed_as {lent = lent} {new = new} {r = r} e h = subst (λ (x : List Message). ListedIs (stranded_from 0 x) lent new r) e h
