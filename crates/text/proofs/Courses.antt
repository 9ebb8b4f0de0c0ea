-- A text is refused by a number at a line exactly where every line before it passes its tests and that number is the first whose test holds
-- of it, and accepted exactly where every line passes and the text may end. Both go line by line.
use mathlib.Core.Path.{◌≡◌, refl, ◌∙◌, ap}
use mathlib.Core.Bool.{true}
use mathlib.Core.Logic.{◌↔◌}
use mathlib.Core.List.{List, [], ◌∷◌, ◌++◌}
use mathlib.Core.Option.{Option, none, some}
use Prim.Native.Nat.{ℕ, suc, ◌+◌}
use native.Mathlib.Nat.{add-zero}
use native.Mathlib.Omega.{arith}
use lib.ListN.{length}
use Rattle.text.specs.Lines.{Line}
use Rattle.text.specs.Course.{Found, refused, good, refused_at, accepted, at_end, at_line, judged_from}
use Rattle.text.specs.Tests.{Test, ◌if◌, FirstTrue, this, None, found, Passed, none_yet, one_more, tests_of_missing, tests_before, StopsAt, AllPassed}
use Rattle.text.proofs.Tests.{found_refused_is, none_good, good_none, Every, first_every}

module _ {S R : Type 0} (tests : S → Line → List Test) (next_due : S → Line → S) (end : S → Option R) where
  -- a line at its place
  abbrev pub judge : S → Line → Found S
  judge s l = found (tests s l) (next_due s l)

  -- one good line in front of lines that pass
  pub good_more : {s s' s'' : S} {x : Line} {ls : List Line} → judge s x ≡ good s' → Passed tests next_due s' ls s'' → Passed tests next_due s (x ∷ ls) s''
  good_more {s} {s'} {s''} {x} e p = let g = good_none (next_due s x) s' (tests s x) e in one_more g.0 g.1 p

  pub passed_both : {s s' s'' : S} (a b : List Line) → Passed tests next_due s a s' → Passed tests next_due s' b s'' → Passed tests next_due s (a ++ b) s''
  passed_both [] b none_yet h = h
  passed_both {s} {s'} {s''} (x ∷ a) b (one_more {s' = u} n e p) h = one_more n e (passed_both {s = u} {s' = s'} {s'' = s''} a b p h)

  pub passed_line : (s s' : S) (x : Line) → None (tests s x) → next_due s x ≡ s' → judge s x ≡ good s'
  passed_line s s' x n e = none_good (next_due s x) (tests s x) n ∙ ap good e

  -- ---- accepted

  accepted_passed : (v : R) (l : ℕ) (s : S) (ls : List Line) → judged_from judge end l s ls ≡ accepted v → AllPassed tests next_due end v s ls
  unfolding judged_from
  accepted_passed v l s [] e = go (end s) refl e
    where
      go : (o : Option R) → end s ≡ o → at_end judge end l o ≡ accepted v → AllPassed tests next_due end v s []
      go none p e = let z : ◌≡◌ {A = ℕ} 0 1 = cc in absurd (omega arith)
      go (some w) p e = record { last = s; passed = none_yet; ends = cc }
  accepted_passed v l s (x ∷ ls) e = go (judge s x) refl e (λ t k. accepted_passed v (suc l) t ls k)
    where
      go : (f : Found S) → judge s x ≡ f → at_line judge end l f (λ t. judged_from judge end (suc l) t ls) ≡ accepted v
          → ((t : S) → judged_from judge end (suc l) t ls ≡ accepted v → AllPassed tests next_due end v t ls)
          → AllPassed tests next_due end v s (x ∷ ls)
      go (refused n) p e ih = let z : ◌≡◌ {A = ℕ} 0 1 = cc in absurd (omega arith)
      go (good t) p e ih = let r = ih t e in record { last = r.last; passed = good_more p r.passed; ends = r.ends }

  passed_accepted : (v : R) (l : ℕ) (s s' : S) (ls : List Line) → Passed tests next_due s ls s' → end s' ≡ some v → judged_from judge end l s ls ≡ accepted v
  unfolding judged_from
  passed_accepted v l s s' [] none_yet e = rw e refl
  passed_accepted v l s s' (x ∷ ls) (one_more {s' = t} n q p) e = rw (passed_line s t x n q) (passed_accepted v (suc l) t s' ls p e)

  pub accepted_is : (v : R) (l : ℕ) (s : S) (ls : List Line) → (judged_from judge end l s ls ≡ accepted v) ↔ AllPassed tests next_due end v s ls
  accepted_is v l s ls = (accepted_passed v l s ls, λ r. passed_accepted v l s r.last ls r.passed r.ends)

  -- ---- refused

  refused_first : (n m l : ℕ) (s : S) (ls : List Line) → judged_from judge end l s ls ≡ refused_at n m → StopsAt tests next_due end n m l s ls
  unfolding judged_from
  refused_first n m l s [] e = record {
    before = [];
    rest = [];
    stands = s;
    parts = refl;
    passed = none_yet;
    place = (go (end s) e).0;
    first = (go (end s) e).1;
  }
    where
      go : (o : Option R) → at_end judge end l o ≡ refused_at n m → (m ≡ l + 0) × FirstTrue n (tests_of_missing tests next_due end o)
      go none e =
          let p : 12 ≡ n = cc in
          let q : l ≡ m = cc in
          (omega arith, rw (← p) (this refl))
      go (some w) e = let z : ◌≡◌ {A = ℕ} 0 1 = cc in absurd (omega arith)
  refused_first n m l s (x ∷ ls) e = go (judge s x) refl e (λ t k. refused_first n m (suc l) t ls k)
    where
      go : (f : Found S) → judge s x ≡ f → at_line judge end l f (λ t. judged_from judge end (suc l) t ls) ≡ refused_at n m
          → ((t : S) → judged_from judge end (suc l) t ls ≡ refused_at n m → StopsAt tests next_due end n m (suc l) t ls)
          → StopsAt tests next_due end n m l s (x ∷ ls)
      go (refused k) p e ih =
          record {
            before = [];
            rest = x ∷ ls;
            stands = s;
            parts = refl;
            passed = none_yet;
            place = let q : l ≡ m = cc in omega arith;
            first = (found_refused_is (next_due s x) n (tests s x)).0 (let q : k ≡ n = cc in p ∙ ap refused q);
          }
      go (good t) p e ih =
          let r = ih t e in
          record {
            before = x ∷ r.before;
            rest = r.rest;
            stands = r.stands;
            parts = ap (λ (k : List Line). x ∷ k) r.parts;
            passed = good_more p r.passed;
            place = let q : m ≡ suc l + length r.before = r.place in omega arith;
            first = r.first;
          }

  first_here : (n l : ℕ) (s : S) (ls : List Line) → FirstTrue n (tests_before tests next_due end s ls) → judged_from judge end l s ls ≡ refused_at n l
  unfolding judged_from
  first_here n l s [] f = go (end s) f
    where
      go : (o : Option R) → FirstTrue n (tests_of_missing tests next_due end o) → at_end judge end l o ≡ refused_at n l
      go none f = let e = (found_refused_is s n (12 if true ∷ [])).1 f in let q : 12 ≡ n = cc in ap (λ (k : ℕ). refused_at k l) q
      go (some w) f = let e = (found_refused_is s n []).1 f in absurd (let z : ◌≡◌ {A = ℕ} 0 1 = cc in omega arith)
  first_here n l s (x ∷ ls) f = rw ((found_refused_is (next_due s x) n (tests s x)).1 f) refl

  passed_refused : (n l : ℕ) (s s' : S) (before rest : List Line) → Passed tests next_due s before s' → FirstTrue n (tests_before tests next_due end s' rest)
      → judged_from judge end l s (before ++ rest) ≡ refused_at n (l + length before)
  unfolding judged_from
  passed_refused n l s s' [] rest none_yet f = rw (add-zero l) (first_here n l s rest f)
  passed_refused n l s s' (x ∷ before) rest (one_more {s' = t} h e p) f =
      let q : suc l + length before ≡ l + suc (length before) = omega arith in
      rw (passed_line s t x h e) (passed_refused n (suc l) t s' before rest p f ∙ ap (refused_at n) q)

  pub refused_is : (n m l : ℕ) (s : S) (ls : List Line)
      → (judged_from judge end l s ls ≡ refused_at n m) ↔ StopsAt tests next_due end n m l s ls
  refused_is n m l s ls = (
    refused_first n m l s ls,
    λ r. rw (r.parts, r.place) (passed_refused n l s r.stands r.before r.rest r.passed r.first),
  )

  -- what holds of 12 and of each number of the tests holds of a number that refuses a line
  pub number_every : (Q : ℕ → Type 0) → Q 12 → ((s : S) (x : Line) → Every Q (tests s x)) → (n m l : ℕ) (s : S) (ls : List Line)
      → StopsAt tests next_due end n m l s ls → Q n
  number_every Q h all n m l s ls r = go r.rest r.first
    where
      missing : (o : Option R) → Every Q (tests_of_missing tests next_due end o)
      missing none = (h, tt)
      missing (some v) = tt

      go : (rest : List Line) → FirstTrue n (tests_before tests next_due end r.stands rest) → Q n
      go [] f = first_every Q n (tests_of_missing tests next_due end (end r.stands)) (missing (end r.stands)) f
      go (x ∷ rest) f = first_every Q n (tests r.stands x) (all r.stands x) f
