-- A part of a list written behind what stands there already, as the loops over the units write theirs.
use mathlib.Core.Path.{◌≡◌, sym, ap, ◌∙◌}
use mathlib.Core.List.{List, ◌++◌, append_assoc}
use Prim.Native.Nat.{ℕ, ◌-◌, ◌≤◌}
use native.Mathlib.Omega.{arith}
use lib.ListN.{length, take, drop, length-append, length-drop}
use lib.Seq.{take_at, length-take-le}
use borrow.Rule.Slice.PartMut.{put_mid}

pub part_behind : {A : Type 0} (begin end : ℕ) (whole done part : List A) → begin ≤ end → end ≤ length whole → take begin whole ≡ done → length part ≡ end - begin
    → (length (put_mid begin (end - begin) whole part) ≡ length whole) × (take end (put_mid begin (end - begin) whole part) ≡ done ++ part)
part_behind begin end whole done part l room e h =
    let long : length (take begin whole) ≡ begin = length-take-le begin whole (omega arith) in
    let after = drop (end - begin) (drop begin whole) in (
      omega (arith, long, h, length-append (take begin whole) (part ++ after), length-append part after, length-drop (end - begin) (drop begin whole), length-drop begin whole),
      ap (take end) (sym (append_assoc (take begin whole) part after))
          ∙ take_at (take begin whole ++ part) after end (omega (arith, long, h, length-append (take begin whole) part))
          ∙ ap (λ (x : List _). x ++ part) e,
    )
