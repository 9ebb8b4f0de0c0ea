-- The kind of a text is said by its first line to the letter, and by nothing else.
use Prim.Native.Nat.{ℕ}
use native.Mathlib.Omega.{arith}
use mathlib.Core.Path.{◌≡◌, refl, ap}
use mathlib.Core.Bool.{Bool, true, false, cond}
use mathlib.Core.Logic.{◌↔◌}
use Rattle.text.specs.Lines.{Line, ended, is_line, kind_problem, kind_schedule, kind_tree, kind_of}
use Rattle.text.specs.declared.Kind.TheVariants.{Unknown, Problem, Schedule, Tree}
use Rattle.text.proofs.Words.{word_is}

module _ (l : Line) where
  pub problem_is : (kind_of l ≡ Problem) ↔ (l ≡ ended kind_problem)
  unfolding kind_of
  problem_is = (go (is_line kind_problem l) refl (is_line kind_schedule l) (is_line kind_tree l), λ e. ap kind_of e)
    where
      go : (a : Bool) → is_line kind_problem l ≡ a → (b c : Bool) → cond a Problem (cond b Schedule (cond c Tree Unknown)) ≡ Problem → l ≡ ended kind_problem
      go true e b c q = word_is kind_problem l e
      go false e true c q = absurd (let z : ◌≡◌ {A = ℕ} 0 1 = cc in omega arith)
      go false e false true q = absurd (let z : ◌≡◌ {A = ℕ} 0 1 = cc in omega arith)
      go false e false false q = absurd (let z : ◌≡◌ {A = ℕ} 0 1 = cc in omega arith)

  pub schedule_is : (kind_of l ≡ Schedule) ↔ (l ≡ ended kind_schedule)
  unfolding kind_of
  schedule_is = (go (is_line kind_problem l) (is_line kind_schedule l) refl (is_line kind_tree l), λ e. ap kind_of e)
    where
      go : (a b : Bool) → is_line kind_schedule l ≡ b → (c : Bool) → cond a Problem (cond b Schedule (cond c Tree Unknown)) ≡ Schedule → l ≡ ended kind_schedule
      go true b e c q = absurd (let z : ◌≡◌ {A = ℕ} 0 1 = cc in omega arith)
      go false true e c q = word_is kind_schedule l e
      go false false e true q = absurd (let z : ◌≡◌ {A = ℕ} 0 1 = cc in omega arith)
      go false false e false q = absurd (let z : ◌≡◌ {A = ℕ} 0 1 = cc in omega arith)

  pub tree_is : (kind_of l ≡ Tree) ↔ (l ≡ ended kind_tree)
  unfolding kind_of
  tree_is = (go (is_line kind_problem l) (is_line kind_schedule l) (is_line kind_tree l) refl, λ e. ap kind_of e)
    where
      go : (a b c : Bool) → is_line kind_tree l ≡ c → cond a Problem (cond b Schedule (cond c Tree Unknown)) ≡ Tree → l ≡ ended kind_tree
      go true b c e q = absurd (let z : ◌≡◌ {A = ℕ} 0 1 = cc in omega arith)
      go false true c e q = absurd (let z : ◌≡◌ {A = ℕ} 0 1 = cc in omega arith)
      go false false true e q = word_is kind_tree l e
      go false false false e q = absurd (let z : ◌≡◌ {A = ℕ} 0 1 = cc in omega arith)
