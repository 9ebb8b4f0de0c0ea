-- Writing on: the part of a buffer after what is written, as it is lent and as it comes back.
use Prim.Native.Nat.{ℕ, suc, ◌+◌, ◌-◌, ◌≤◌, ◌<◌}
use native.Mathlib.Numerals.{add-one}
use native.Mathlib.Omega.{arith}
use mathlib.Core.Path.{◌≡◌, refl, sym, ap, ◌∙◌}
use mathlib.Core.List.{List, [], ◌∷◌, ◌++◌, append_assoc, append-nil}
use lib.ListN.{length, take, drop, get_or, set, length-append, length-drop, drop_of_length-le}
use borrow.Rule.Slice.PartMut.{put_mid}
use lib.Seq.{take_at, drop_at, drop-drop, take_all, drop-cons, set_at}
use Rattle.writer.specs.Written.{over}

-- ---- writing on, into the part of the buffer after what is written

-- the part `&mut b[k..]`, as it is lent and as it comes back
pub part_tail : (b : List ℕ) (k : ℕ) → take (length b - k) (drop k b) ≡ drop k b
part_tail b k = take_all (length b - k) (drop k b) (omega (arith, length-drop k b))

pub put_tail : (b ys : List ℕ) (k : ℕ) → put_mid k (length b - k) b ys ≡ take k b ++ ys
put_tail b ys k =
    ap (λ (r : List ℕ). take k b ++ (ys ++ r)) (drop_of_length-le (drop k b) {i = length b - k} (omega (arith, length-drop k b)))
    ∙ ap (λ (r : List ℕ). take k b ++ r) (append-nil ys)

pub length_over : (l b : List ℕ) → length l ≤ length b → length (over l b) ≡ length b
length_over l b h = omega (arith, length-append l (drop (length l) b), length-drop (length l) b)

over_next : (done x b : List ℕ) → take (length done) (over done b) ++ over x (drop (length done) (over done b)) ≡ over (done ++ x) b
over_next done x b =
    ap (λ (l : List ℕ). l ++ over x (drop (length done) (over done b))) (take_at done (drop (length done) b) (length done) refl)
    ∙ ap (λ (l : List ℕ). done ++ over x l) (drop_at done (drop (length done) b) (length done) refl)
    ∙ ap (λ (l : List ℕ). done ++ (x ++ l)) (drop-drop (length x) (length done) b ∙ ap (λ (n : ℕ). drop n b) (sym (length-append done x)))
    ∙ sym (append_assoc done x (drop (length (done ++ x)) b))

-- b₁ is b with the bytes `done` written at its front, k of them
module _ (b b₁ done : List ℕ) (k : ℕ) (written : b₁ ≡ over done b) (many : k ≡ length done) where
  pub kept : length done ≤ length b → length b₁ ≡ length b
  kept h = ap length written ∙ length_over done b h

  -- the part from k on has room for x
  pub room : (x : List ℕ) → length done + length x ≤ length b → length x ≤ length (take (length b₁ - k) (drop k b₁))
  room x h = omega (arith, ap length (part_tail b₁ k), length-drop k b₁, kept (omega arith))

  -- x was written at the front of that part, which is back
  pub next : (x ys : List ℕ) → ys ≡ over x (take (length b₁ - k) (drop k b₁)) → put_mid k (length b₁ - k) b₁ ys ≡ over (done ++ x) b
  next x ys q =
      put_tail b₁ ys k
      ∙ ap (λ (l : List ℕ). take k b₁ ++ l) (q ∙ ap (over x) (part_tail b₁ k))
      ∙ ap (λ (n : ℕ). take n b₁ ++ over x (drop n b₁)) many
      ∙ ap (λ (l : List ℕ). take (length done) l ++ over x (drop (length done) l)) written
      ∙ over_next done x b

  -- one byte more
  pub one_more : (v : ℕ) → length done < length b → set b₁ k v ≡ over (done ++ (v ∷ [])) b
  one_more v h =
      ap (λ (l : List ℕ). set l k v) (written ∙ ap (λ (l : List ℕ). done ++ l) (drop-cons b (length done) 0 h))
      ∙ set_at done (get_or b (length done) 0) (drop (suc (length done)) b) v k (sym many)
      ∙ ap (λ (n : ℕ). done ++ (v ∷ drop n b)) (sym (length-append done (v ∷ []) ∙ add-one (length done)))
      ∙ sym (append_assoc done (v ∷ []) (drop (length (done ++ (v ∷ []))) b))

-- ---- one byte, and then bytes in the part after it

module _ (b : List ℕ) (v : ℕ) (x ys : List ℕ) (room₁ : suc (length x) ≤ length b) (back : ys ≡ over x (take (length (set b 0 v) - 1) (drop 1 (set b 0 v)))) where
  pub after_one : put_mid 1 (length (set b 0 v) - 1) (set b 0 v) ys ≡ over (v ∷ x) b
  after_one = next b (set b 0 v) (v ∷ []) 1 (one_more b b [] 0 refl refl v (omega arith)) refl x ys back

  pub after_one_kept : length (put_mid 1 (length (set b 0 v) - 1) (set b 0 v) ys) ≡ length b
  after_one_kept = ap length after_one ∙ length_over (v ∷ x) b room₁
