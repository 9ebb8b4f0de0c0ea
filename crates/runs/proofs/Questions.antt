-- The tests of a question about a price leaf are what they say.
use mathlib.Core.Path.{◌≡◌, refl, ap}
use mathlib.Core.Bool.{Bool, true, ◌&&◌}
use mathlib.Core.List.{List, [], ◌∷◌}
use mathlib.Core.Logic.{◌↔◌}
use Prim.Native.Nat.{ℕ, ◌*◌, ◌≤◌}
use native.Mathlib.Omega.{arith}
use lib.Dec.{T, eqb}
use lib.ListN.{length}
use Rattle.std.specs.List.{list_all}
use Rattle.model.specs.Instance.{Instance}
use Rattle.model.specs.Ranges.{All, GoodPrice, every}
use Rattle.model.proofs.Tests.{T_true, true_T}
use Rattle.model.proofs.RangeTests.{and_is, leb_is, eqb_is, every_is}
use Rattle.walk.specs.Marks.{is_status}
use Rattle.runs.specs.Questions.{is_price, statuses_in, asked_in}
use Rattle.runs.specs.Drafts.{fits, FitQuestion}

pub price_is : (v : ℕ) → T (is_price v) ↔ GoodPrice v
price_is v = (λ t. (omega arith, (leb_is v 1000000000).0 t), λ p. (leb_is v 1000000000).1 p.1)

-- the code's test of all members is the definitions'
pub all_every : {A : Type 0} (test : A → Bool) (l : List A) → list_all test l ≡ every test l
all_every test [] = refl
all_every test (x ∷ l) = ap (λ (b : Bool). test x && b) (all_every test l)

-- ---- the multipliers and the statuses

module _ (n I : ℕ) (fixed : List ℕ) where
  abbrev pub Statuses : Type 0
  Statuses = (length fixed ≡ I * n) × All (λ b. b ≤ 2) fixed

  pub statuses_are : T (statuses_in n I fixed) ↔ Statuses
  statuses_are = and_is (eqb (length fixed) (I * n)) _ (eqb_is (length fixed) (I * n)) (every_is is_status (λ b. b ≤ 2) (λ b. leb_is b 2) fixed)

module _ (n I : ℕ) (q s fixed : List ℕ) where
  abbrev pub Asked : Type 0
  Asked = (length q ≡ n) × ((length s ≡ n) × (All GoodPrice q × (All GoodPrice s × Statuses n I fixed)))

  pub asked_is : T (asked_in n I q s fixed) ↔ Asked
  asked_is =
      and_is (eqb (length q) n) _ (eqb_is (length q) n)
      (and_is (eqb (length s) n) _ (eqb_is (length s) n)
      (and_is (every is_price q) _ (every_is is_price GoodPrice price_is q)
      (and_is (every is_price s) _ (every_is is_price GoodPrice price_is s) (statuses_are n I fixed))))

-- ---- the test of a question about runs

module _ (P : Instance) (q s fixed rows short : List ℕ) where
  abbrev n : ℕ
  n = P.periods

  abbrev places : ℕ
  places = length P.units * P.periods

  parts_are : T (fits P q s fixed (length rows) (length short)) ↔ ((length short ≡ n) × ((length rows ≡ places) × Asked n (length P.units) q s fixed))
  parts_are =
      and_is (eqb (length short) n) _ (eqb_is (length short) n)
      (and_is (eqb (length rows) places) _ (eqb_is (length rows) places) (asked_is n (length P.units) q s fixed))

  pub fits_is : (fits P q s fixed (length rows) (length short) ≡ true) ↔ FitQuestion P q s fixed rows short
  fits_is = (
    λ e. let p = parts_are.0 (true_T (fits P q s fixed (length rows) (length short)) e) in
        record {
          q_long = p.1.1.0;
          s_long = p.1.1.1.0;
          short_long = p.0;
          fixed_long = p.1.1.1.1.1.1.0;
          rows_long = p.1.0;
          q_in = p.1.1.1.1.0;
          s_in = p.1.1.1.1.1.0;
          statuses = p.1.1.1.1.1.1.1;
        },
    λ F. T_true (fits P q s fixed (length rows) (length short)) (parts_are.1 (F.short_long, (F.rows_long, (F.q_long, (F.s_long, (F.q_in, (F.s_in, (F.fixed_long, F.statuses)))))))),
  )
