-- Down, pass and leave: a law for each way that the code goes.
use mathlib.Core.Path.{◌≡◌, refl, sym, ap, subst, ◌∙◌}
use mathlib.Core.Bool.{Bool, true, false}
use mathlib.Core.List.{List, ◌++◌}
use Prim.Native.Nat.{ℕ, ◌+◌, ◌*◌, ◌<◌, ◌≤◌}
use native.Mathlib.Omega.{arith}
use borrow.Author.Tests.{ne_eqb}
use lib.ListN.{length, get_or, set}
use Rattle.model.specs.Basics.{◌&◌, refuse, done, remove}
use Rattle.model.specs.Side.{Message as MMessage}
use Rattle.model.specs.Step.{is_down, is_arrived, is_leaving, go_down, pass, copied, leaving_on, leave, with_lobby, settled}
use Rattle.model.proofs.Basics.Tests.{both}
use Rattle.values.specs.Env.{view_value}
use Rattle.wrappers.specs.Copies.{log_if}
use Rattle.sides.specs.declared.Status.{Status}
use Rattle.sides.specs.declared.Status.TheVariants.{Down, Arrived, Leaving}
use Rattle.sides.specs.declared.Tag.TheVariants.{FromParent}
use Rattle.sides.specs.declared.Message.{Message}
use Rattle.sides.specs.declared.Lobby.{Lobby}
use Rattle.sides.specs.Views.{view_status, view_message, view_lobby, fits_message, fits_lobby}
use Rattle.sides.specs.Holding.{LobbyIs}
use Rattle.sides.specs.declared.Output.{Output}
use Rattle.sides.specs.declared.Rest.{Rest}
use Rattle.sides.specs.Stored.{output_put}
use Rattle.sides.specs.Sides.{core_of, fits_side}
use Rattle.sides.proofs.Storing.{output_length}
use Rattle.sides.proofs.Putting.{output_put_lem, add_view, add_fits}
use Rattle.sides.proofs.Behind.{behind_output}
use Rattle.steps.specs.declared.Said.TheVariants as said
use Rattle.steps.proofs.Settling.{no_left, no_right}
use Rattle.steps.proofs.CoreSteps as core
use Rattle.steps.specs.declared.RestStep.{RestStep}
use Rattle.steps.specs.StepIs.{label_of, StepIs, Sane}
use Rattle.steps.specs.declared.Said.{Said}
use Rattle.steps.specs.declared.Offer.{Offer}
use Rattle.steps.specs.Asked.{Says, OfferIs, OfferIf, DownAt, copy_fits, PassAt, LeaveAt}
use Rattle.steps.proofs.Held.{Full, side_rows, side_lobby, side_shelf, side_again, boxes_kept, shelf_kept, shelf_fits_kept, same_core, rows_n, lobby_n}
use Rattle.steps.proofs.Held.{words_short, message_at, message_fits, message_short, message_any, quiet_is, said_is, offer_last}

-- a status, by its variant
pub down_is : (s : Status) → s ≡ Down → is_down (view_status s) ≡ true
down_is s e = rw e refl

pub not_down : (s : Status) → (s ≡ Down → ⊥) → is_down (view_status s) ≡ false
not_down Down n = absurd (n refl)
not_down Arrived n = refl
not_down Leaving n = refl

pub arrived_is : (s : Status) → s ≡ Arrived → is_arrived (view_status s) ≡ true
arrived_is s e = rw e refl

pub not_arrived : (s : Status) → (s ≡ Arrived → ⊥) → is_arrived (view_status s) ≡ false
not_arrived Down n = refl
not_arrived Arrived n = absurd (n refl)
not_arrived Leaving n = refl

pub leaving_is : (s : Status) → s ≡ Leaving → is_leaving (view_status s) ≡ true
leaving_is s e = rw e refl

pub not_leaving : (s : Status) → (s ≡ Leaving → ⊥) → is_leaving (view_status s) ≡ false
not_leaving Down n = refl
not_leaving Arrived n = refl
not_leaving Leaving n = absurd (n refl)

module _ (l : List ℕ) (o : Rest) (i : ℕ) (ok : Sane l o) (full : Full o) where
  past : o.lobby.len ≤ i → length (view_lobby o.lobby) ≤ i
  past h = rw (lobby_n l o ok full) h

  -- a position past the lobby
  pub down_past : o.lobby.len ≤ i → settled (go_down (core_of l o) i) ≡ refuse 10
  down_past h = core.down_10 (core_of l o) ok.short_outputs ok.few i (past h)

  pub pass_past : (b : Bool) → o.lobby.len ≤ i → settled (pass (log_if b) (core_of l o) i) ≡ refuse 10
  pass_past b h = core.pass_10 (core_of l o) ok.short_outputs ok.few (log_if b) i (past h)

  pub leave_past : o.lobby.len ≤ i → settled (leave (core_of l o) i) ≡ refuse 10
  leave_past h = core.leave_10 (core_of l o) ok.short_outputs ok.few i (past h)

  module _ (d : Message) (h : i < o.lobby.len) where
    pub down_not : is_down (view_status (get_or o.lobby.msgs i d).status) ≡ false → settled (go_down (core_of l o) i) ≡ refuse 13
    down_not t = core.down_13 (core_of l o) ok.short_outputs ok.few i _ (message_at l o ok full i d h) t

    pub down_full : is_down (view_status (get_or o.lobby.msgs i d).status) ≡ true → 32 ≤ o.particles → settled (go_down (core_of l o) i) ≡ refuse 17
    down_full t f =
        core.down_17 (core_of l o) ok.short_outputs ok.few i _ (message_at l o ok full i d h) t
        (words_short (get_or o.lobby.msgs i d).value (message_short l o ok full i d h)) (rw (rows_n l o ok) f)

    pub down_may : is_down (view_status (get_or o.lobby.msgs i d).status) ≡ true → o.particles < 32 → DownAt o i
    down_may t f = record { held = h; status = λ e. ap (λ (x : Message). is_down (view_status x.status)) (sym (message_any l o ok full i d h e)) ∙ t; room = f }

    -- pass, where the side is logged or not
    module _ (b : Bool) where
      pub pass_not : is_arrived (view_status (get_or o.lobby.msgs i d).status) ≡ false → settled (pass (log_if b) (core_of l o) i) ≡ refuse 13
      pass_not t = core.pass_13 (core_of l o) ok.short_outputs ok.few (log_if b) i _ (message_at l o ok full i d h) (no_left _ _ t)

      pub pass_other : ((get_or o.lobby.msgs i d).channel ≡ 1 → ⊥) → settled (pass (log_if b) (core_of l o) i) ≡ refuse 13
      pass_other n = core.pass_13 (core_of l o) ok.short_outputs ok.few (log_if b) i _ (message_at l o ok full i d h) (no_right _ _ (ne_eqb _ _ n))

      module _ (t : is_arrived (view_status (get_or o.lobby.msgs i d).status) ≡ true) (c : (get_or o.lobby.msgs i d).channel ≡ 1) where
        pass_full : 16 < o.lobby.len + length (log_if b) → settled (pass (log_if b) (core_of l o) i) ≡ refuse 17
        pass_full n = core.pass_17 (core_of l o) ok.short_outputs ok.few (log_if b) i _ (message_at l o ok full i d h) t c (rw (lobby_n l o ok full) n)

        pass_may : o.lobby.len + length (log_if b) ≤ 16 → PassAt b o i
        pass_may room = record {
          held = h;
          status = λ e. ap (λ (x : Message). is_arrived (view_status x.status)) (sym (message_any l o ok full i d h e)) ∙ t;
          chan = λ e. ap (λ (x : Message). x.channel) (sym (message_any l o ok full i d h e)) ∙ c;
          room = room;
        }

        pub pass_last : (n : ℕ) (a : Offer) → n ≡ length (log_if b) → OfferIf (o.lobby.len + n ≤ 16) i 17 a → OfferIs (settled (pass (log_if b) (core_of l o) i)) i (PassAt b o) a
        pass_last n a same w =
            offer_last _ i (PassAt b o) (o.lobby.len + n ≤ 16) 17 a w (λ room. pass_may (omega (arith, room, same))) (λ none. pass_full (omega (arith, none, same)))

    pub leave_not : is_leaving (view_status (get_or o.lobby.msgs i d).status) ≡ false → settled (leave (core_of l o) i) ≡ refuse 13
    leave_not t = core.leave_13 (core_of l o) ok.short_outputs ok.few i _ (message_at l o ok full i d h) t

    pub leave_may : is_leaving (view_status (get_or o.lobby.msgs i d).status) ≡ true → LeaveAt o i
    leave_may t = record { held = h; status = λ e. ap (λ (x : Message). is_leaving (view_status x.status)) (sym (message_any l o ok full i d h e)) ∙ t }

-- what a message that goes down becomes
abbrev pub lowered : Message → Output
lowered m = record { at = 0; channel = m.channel; tag = FromParent; value = m.value }

-- what is made of lobby k, which is the i that was asked for
module _ (l : List ℕ) (o : Rest) (i k : ℕ) (same : k ≡ i) (ok : Sane l o) (full : Full o) (d : Message) (r : RestStep) where
  pub down_did : (m : List ℕ) (n c : ℕ) (y : Lobby) → DownAt o k →
      (n ≡ o.particles + 1) × (m ≡ output_put l (144 * o.particles) (lowered (get_or o.lobby.msgs k d))) →
      LobbyIs (remove (view_lobby o.lobby) k) c (fits_lobby o.lobby) y →
      Says said.Silent (record { particles = n; boxes = o.boxes; shelved = o.shelved; minted = o.minted; lobby = y; taken = o.taken }) r →
      StepIs (settled (go_down (core_of l o) i)) l o m r
  down_did m n c y a put ys says =
      let x : Message = get_or o.lobby.msgs k d in
      let p : Output = lowered x in
      let h = message_short l o ok full k d a.held in
      let e = core.down_done (core_of l o) ok.short_outputs ok.few k _ (message_at l o ok full k d a.held) (a.status d) (words_short x.value h) (rw (rows_n l o ok) a.room) in
      let w : List ℕ = output_put l (144 * o.particles) p in
      let rp = output_put_lem l o.particles p ok.long a.room h in
      let b = behind_output l o.particles p a.room h in
      let after : ℕ → Rest = λ z. record { particles = z; boxes = o.boxes; shelved = o.shelved; minted = o.minted; lobby = y; taken = o.taken } in
      let u : Rest = after (o.particles + 1) in
      let fits : fits_side w u ≡ true =
      side_again l w o u ok.arrays refl (add_fits l w o.particles _ rp a.room (side_rows l o ok.arrays)) (ys.fits (side_lobby l o ok.arrays))
      (shelf_fits_kept l w b o.shelved (side_shelf l o ok.arrays)) in
      let is = same_core o.minted o.taken (add_view l w o.particles _ rp a.room) (boxes_kept l w b o.boxes) ys.view (shelf_kept l w b o.shelved) in
      subst (λ (z : ℕ). StepIs (settled (go_down (core_of l o) z)) l o m r) same
      (subst (λ (z : List ℕ). StepIs (settled (go_down (core_of l o) k)) l o z r) (sym put.1)
      (quiet_is _ _ l w o (after n) u r e says (ap after put.0) is (output_length l (144 * o.particles) p) fits))

  pub pass_did : (b : Bool) (x : Message) (z y : Lobby) (n j : ℕ) → PassAt b o k →
      x ≡ record { status = Leaving; channel = 1; value = (get_or o.lobby.msgs k d).value } →
      LobbyIs (set (view_lobby o.lobby) k (view_message x)) n (fits_lobby o.lobby & fits_message x) z →
      LobbyIs (view_lobby z ++ copied (log_if b) (view_value (get_or o.lobby.msgs k d).value)) j (fits_lobby z & copy_fits (get_or o.lobby.msgs k d).value) y →
      Says said.Silent (record { particles = o.particles; boxes = o.boxes; shelved = o.shelved; minted = o.minted; lobby = y; taken = o.taken }) r →
      StepIs (settled (pass (log_if b) (core_of l o) i)) l o l r
  pass_did b x z y n j a xe zs ys says =
      let m : Message = get_or o.lobby.msgs k d in
      let room = subst (λ (c : ℕ). c + length (log_if b) ≤ 16) (sym (lobby_n l o ok full)) a.room in
      let e = core.pass_done (core_of l o) ok.short_outputs ok.few (log_if b) k _ (message_at l o ok full k d a.held) (a.status d) (a.chan d) room in
      let kept = message_fits l o ok full k d a.held in
      let u : Rest = record { particles = o.particles; boxes = o.boxes; shelved = o.shelved; minted = o.minted; lobby = y; taken = o.taken } in
      let fits : fits_side l u ≡ true =
      side_again l l o u ok.arrays refl (side_rows l o ok.arrays) (ys.fits (both _ _ (zs.fits (both _ _ (side_lobby l o ok.arrays) (ap fits_message xe ∙ kept))) kept))
      (side_shelf l o ok.arrays) in
      let turned = zs.view ∙ ap (λ (g : Message). set (view_lobby o.lobby) k (view_message g)) xe in
      subst (λ (q : ℕ). StepIs (settled (pass (log_if b) (core_of l o) q)) l o l r) same
      (quiet_is _ _ l l o u u r e says refl
      (same_core o.minted o.taken refl refl (ys.view ∙ ap (λ (g : List MMessage). g ++ copied (log_if b) (view_value m.value)) turned) refl) refl fits)

  pub leave_did : (w : Said) (y : Lobby) (n : ℕ) → LeaveAt o k →
      label_of w ≡ done (leaving_on (get_or o.lobby.msgs k d).channel) →
      LobbyIs (remove (view_lobby o.lobby) k) n (fits_lobby o.lobby) y →
      r ≡ record { said = w; value = (get_or o.lobby.msgs k d).value; rest = record { particles = o.particles; boxes = o.boxes; shelved = o.shelved; minted = o.minted; lobby = y; taken = o.taken } } →
      StepIs (settled (leave (core_of l o) i)) l o l r
  leave_did w y n a we ys re =
      let m : Message = get_or o.lobby.msgs k d in
      let e = core.leave_done (core_of l o) ok.short_outputs ok.few k _ (message_at l o ok full k d a.held) (a.status d) in
      let u : Rest = record { particles = o.particles; boxes = o.boxes; shelved = o.shelved; minted = o.minted; lobby = y; taken = o.taken } in
      let fits : fits_side l u ≡ true =
      side_again l l o u ok.arrays refl (side_rows l o ok.arrays) (ys.fits (side_lobby l o ok.arrays)) (side_shelf l o ok.arrays) in
      subst (λ (z : ℕ). StepIs (settled (leave (core_of l o) z)) l o l r) same
      (rw re
      (said_is _ (record { label = leaving_on m.channel; val = view_value m.value; core = with_lobby (core_of l o) (remove (view_lobby o.lobby) k) }) l l o u
      (record { said = w; value = m.value; rest = u }) e we refl (message_short l o ok full k d a.held) refl
      (same_core o.minted o.taken refl refl ys.view refl) refl fits))
