-- Words stored in a list.
use mathlib.Core.Path.{◌≡◌, sym, ap, ◌∙◌}
use mathlib.Core.List.{List, append_assoc}
use Prim.Native.Nat.{ℕ, ◌+◌, ◌≤◌}
use lib.ListN.{length, take, drop}
use lib.Seq.{sets, sets-eq, drop-drop}
use borrow.Rule.Slice.PartMut.{put_mid}

-- a run of words in place of a part that is as long
pub copied : (old ws part : List ℕ) (at k : ℕ) → at + length ws ≤ length old → k ≡ length ws → part ≡ ws → put_mid at k old part ≡ sets old at ws
copied old ws part at k h m e =
    let behind : drop k (drop at old) ≡ drop (at + length ws) old = ap (λ (n : ℕ). drop n (drop at old)) m ∙ drop-drop (length ws) at old in
    rw (e, behind) (sym (sets-eq ws old at h ∙ append_assoc (take at old) ws (drop (at + length ws) old)))
