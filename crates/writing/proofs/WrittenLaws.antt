-- Laws of bytes written at a place, and of a page.
use mathlib.Core.Path.{◌≡◌, refl, sym, ◌∙◌, ap}
use mathlib.Core.List.{List, [], ◌∷◌, ◌++◌, append_assoc}
use Prim.Native.Nat.{ℕ, suc, ◌+◌, ◌≤◌}
use native.Mathlib.Nat.{add-zero, add-suc, suc-add}
use native.Mathlib.Omega.{arith}
use lib.ListN.{length, take, drop, set, length-append, length-drop}
use lib.Seq.{sets, sets-eq, take_at, drop-drop}
use borrow.Rule.Slice.PartMut.{put_mid}
use Rattle.format.specs.Words.{onto}
use Rattle.writing.specs.Written.{Written, PageIs}

-- a run of stores after a run is one run
stored_twice : (xs ys l : List ℕ) (a : ℕ) → sets (sets l a xs) (a + length xs) ys ≡ sets l a (xs ++ ys)
stored_twice [] ys l a = ap (λ (k : ℕ). sets l k ys) (add-zero a)
stored_twice (x ∷ xs) ys l a =
    let next : a + suc (length xs) ≡ suc a + length xs = add-suc a (length xs) ∙ sym (suc-add a (length xs)) in
    ap (λ (k : ℕ). sets (sets (set l a x) (suc a) xs) k ys) next ∙ stored_twice xs ys (set l a x) (suc a)

-- a run of stores from the start
stored_first : (ws l : List ℕ) → length ws ≤ length l → sets l 0 ws ≡ onto ws l
stored_first ws l h =
    let i : 0 + length ws ≡ length ws = omega arith in
    sets-eq ws l 0 (omega arith) ∙ ap (λ (k : ℕ). ws ++ drop k l) i

-- a text in place of a part that is as long
pub copied : (old text part : List ℕ) (at k : ℕ) → at + length text ≤ length old → k ≡ length text → part ≡ text → put_mid at k old part ≡ sets old at text
copied old text part at k h m e =
    let behind : drop k (drop at old) ≡ drop (at + length text) old = ap (λ (n : ℕ). drop n (drop at old)) m ∙ drop-drop (length text) at old in
    rw (e, behind) (sym (sets-eq text old at h ∙ append_assoc (take at old) text (drop (at + length text) old)))

-- a text and another behind it are one text
pub joined : {old mid new xs ys : List ℕ} {a b c : ℕ} → Written old a xs b mid → Written mid b ys c new → Written old a (xs ++ ys) c new
joined {old} {xs = xs} {ys} {a} {b} f g = record {
  end = omega (arith, length-append xs ys, f.end, g.end);
  text = g.text ∙ ap (λ (l : List ℕ). sets l b ys) f.text ∙ ap (λ (k : ℕ). sets (sets old a xs) k ys) f.end ∙ stored_twice xs ys old a;
  same = g.same ∙ f.same;
}

-- no text
pub nothing : (old : List ℕ) (a : ℕ) → Written old a [] a old
nothing old a = record { end = omega arith; text = refl; same = refl }

-- an equal text
pub spelled : {old new xs ys : List ℕ} {a b : ℕ} → xs ≡ ys → Written old a xs b new → Written old a ys b new
spelled e f = rw e at f

-- a text from the start of a page
pub paged : {lent after ws : List ℕ} {r : ℕ} → Written lent 0 ws r after → r ≤ length lent → r ≤ 206848 → PageIs ws lent after r
paged {lent} {ws = ws} f room few = record { count = omega (arith, f.end); few = few; page = f.text ∙ stored_first ws lent (omega (arith, f.end)) }

-- what a page has at its start
pub page_start : {o lent after : List ℕ} {r : ℕ} → PageIs o lent after r → take r after ≡ o
page_start {o} {lent} {r = r} f = ap (take r) f.page ∙ take_at o (drop (length o) lent) r (sym f.count)

-- a page has room for it, and stays as long as it was lent
pub page_within : {o lent after : List ℕ} {r : ℕ} → PageIs o lent after r → r ≤ length after
page_within {o} {lent} f = omega (arith, f.count, ap length f.page ∙ length-append o (drop (length o) lent))

pub page_length : {o lent after : List ℕ} {r : ℕ} → PageIs o lent after r → length lent ≡ 206848 → length after ≡ 206848
page_length {o} {lent} f long = ap length f.page ∙ length-append o (drop (length o) lent) ∙ omega (arith, f.count, f.few, length-drop (length o) lent)
