-- From what the functions called say to the numbers.
use mathlib.Core.Path.{◌≡◌, refl, sym, ap, subst, ◌∙◌}
use mathlib.Core.Bool.{Bool, true, false}
use mathlib.Core.List.{List, [], ◌∷◌}
use mathlib.Core.Option.{some, none}
use Prim.Native.Nat.{ℕ}
use native.Mathlib.Omega.{arith}
use lib.ListN.{length}
use Rattle.std.specs.Prelude.{Ok, Err}
use Rattle.std.specs.declared.result.Result.{Result}
use Rattle.model.specs.Basics.{choose}
use Rattle.format.specs.Lines.{when}
use Rattle.format.specs.Words.{Ran as FRan}
use Rattle.format.proofs.AnswerWords.{answers_read}
use Rattle.text.specs.declared.TooShort.{TooShort}
use Rattle.text.specs.Text.{bytes_of, has_room, TextIs}
use Rattle.running.specs.declared.RunError.{RunError}
use Rattle.running.specs.Running.{ran_of, RunIs}
use Rattle.embed.specs.Numbers.{TextNumbers, code_of, numbers_of, RunNumbers}

-- THE OUTPUT FOR AN INPUT

module _ {o lent after : List ℕ} {w : Result ℕ TooShort} (h : TextIs o lent after w) where
  -- what the result says of the room
  told : (c : Result ℕ TooShort) → w ≡ c → (t : Bool) → has_room o lent ≡ t → bytes_of c ≡ when t (length o)
  told c d t e = ap bytes_of (sym d) ∙ h.answer ∙ ap (λ (b : Bool). when b (length o)) e

  pub text_written : (n : ℕ) → w ≡ Ok n → TextNumbers o lent after n 0
  unfolding choose
  text_written n d = by (has_room o lent) refl
    where
      by : (t : Bool) → has_room o lent ≡ t → TextNumbers o lent after n 0
      by false e = let k : some n ≡ none = told (Ok n) d false e in let m : ◌≡◌ {A = ℕ} 0 1 = cc in absurd (omega arith)
      by true e =
          let k : some n ≡ some (length o) = told (Ok n) d true e in
          let same : n ≡ length o = cc in
          record { answer = ap (λ (b : Bool). choose b 0 1) (sym e); count = same ∙ ap (λ (b : Bool). choose b (length o) 0) (sym e); buffer = h.buffer }

  pub text_short : (x : TooShort) → w ≡ Err x → TextNumbers o lent after 0 1
  unfolding choose
  text_short x d = by (has_room o lent) refl
    where
      by : (t : Bool) → has_room o lent ≡ t → TextNumbers o lent after 0 1
      by true e = let k : none ≡ some (length o) = told (Err x) d true e in let m : ◌≡◌ {A = ℕ} 0 1 = cc in absurd (omega arith)
      by false e = record { answer = ap (λ (b : Bool). choose b 0 1) (sym e); count = ap (λ (b : Bool). choose b (length o) 0) (sym e); buffer = h.buffer }

-- A RUN

module _ {x : FRan} {lent after : List ℕ} {r : Result ℕ RunError} (h : RunIs x lent after r) where
  pub run_told : (c : Result ℕ RunError) → r ≡ c → RunNumbers x lent after (numbers_of (ran_of c after)) (code_of (ran_of c after))
  run_told c d =
      let same : ran_of c after ≡ x = ap (λ (z : Result ℕ RunError). ran_of z after) (sym d) ∙ h.answer in
      record { answer = ap code_of same; numbers = ap numbers_of same; words = h.put.words }

  pub run_done : (n : ℕ) → r ≡ Ok n → RunNumbers x lent after (n ∷ 0 ∷ 0 ∷ []) 0
  run_done n d = subst (λ (m : ℕ). RunNumbers x lent after (m ∷ 0 ∷ 0 ∷ []) 0) (answers_read n after) (run_told (Ok n) d)
