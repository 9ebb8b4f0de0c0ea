-- The tests of the code are the ranges of document 01: a test holds exactly where the record does. A joined test is the product of its parts.
use mathlib.Core.Path.{◌≡◌, refl, sym, ap, ◌∙◌}
use mathlib.Core.Bool.{Bool, true, false, not, cond, ◌&&◌}
use mathlib.Core.List.{List, [], ◌∷◌}
use mathlib.Core.Logic.{◌↔◌}
use Prim.Native.Nat.{ℕ, zero, suc, ◌≤◌}
use native.Mathlib.Omega.{arith}
use lib.Dec.{T, leb, leb→le, le→leb, eqb, eqb→eq, eqb_refl}
use Rattle.model.specs.declared.generator.Generator.{Generator}
use Rattle.model.specs.Ranges.{Between, All, InRange, Ordered, GoodUnit, GoodLoad, between, every, costs_in_range, outputs_in_range, times_in_range, in_range, midnight_ordered, ordered, good_generator, load_in_range}
use Rattle.model.specs.Rules.{on}
use Rattle.model.proofs.Tests.{true_T, T_and, T_and_l, T_and_r}

pub and_is : (a b : Bool) {A B : Type 0} → T a ↔ A → T b ↔ B → T (a && b) ↔ (A × B)
and_is a b f g = (λ t. (f.0 (T_and_l a b t), g.0 (T_and_r a b t)), λ p. T_and a b (f.1 p.0) (g.1 p.1))

pub leb_is : (m n : ℕ) → T (leb m n) ↔ (m ≤ n)
leb_is m n = (leb→le m n, le→leb m n)

pub between_is : (least v most : ℕ) → T (between least v most) ↔ Between least v most
between_is l v m = and_is (leb l v) (leb v m) (leb_is l v) (leb_is v m)

module _ {A : Type 0} (test : A → Bool) (R : A → Type 0) (is : (x : A) → T (test x) ↔ R x) where
  pub every_is : (l : List A) → T (every test l) ↔ All R l
  every_is [] = ((λ t. tt), (λ a. tt))
  every_is (x ∷ l) = and_is (test x) (every test l) (is x) (every_is l)

pub load_is : (v : ℕ) → T (load_in_range v) ↔ GoodLoad v
load_is v = between_is 0 v 320000

pub eqb_is : (m n : ℕ) → T (eqb m n) ↔ (m ≡ n)
eqb_is m n = (eqb→eq m n, λ e. rw e (eqb_refl n))

-- the test that a status chooses
chosen : (c a b : Bool) {A B : Type 0} → T a ↔ A → T b ↔ B → T (cond c a b) ↔ ((T c → A) × (T (not c) → B))
chosen true a b f g = (λ t. (λ k. f.0 t, λ k. absurd k), λ p. f.1 (p.0 tt))
chosen false a b f g = (λ t. (λ k. absurd k, λ k. g.0 t), λ p. g.1 (p.1 tt))

-- one number's test before the others'
also : (l v m : ℕ) (b : Bool) {B : Type 0} → T b ↔ B → T (between l v m && b) ↔ (Between l v m × B)
also l v m b f = and_is (between l v m) b (between_is l v m) f

module _ (g : Generator) where
  costs_is : T (costs_in_range g)
      ↔ (Between 0 g.a 1000000000 × (Between 0 g.b 10000000 × (Between 0 g.c 10000 × (Between 0 g.Hsc 1000000000
      × (Between 0 g.Csc 1000000000 × Between 0 g.Dc 1000000000)))))
  unfolding costs_in_range
  costs_is =
      also 0 g.a 1000000000 _ (also 0 g.b 10000000 _ (also 0 g.c 10000 _ (also 0 g.Hsc 1000000000 _
      (also 0 g.Csc 1000000000 _ (between_is 0 g.Dc 1000000000)))))

  outputs_is : T (outputs_in_range g)
      ↔ (Between 1 g.pL 10000 × (Between 1 g.pU 10000 × (Between 1 g.DR 10000 × (Between 1 g.UR 10000
      × Between 0 g.p0 10000))))
  unfolding outputs_in_range
  outputs_is =
      also 1 g.pL 10000 _ (also 1 g.pU 10000 _ (also 1 g.DR 10000 _ (also 1 g.UR 10000 _
      (between_is 0 g.p0 10000))))

  times_is : T (times_in_range g)
      ↔ (Between 1 g.TU 48 × (Between 1 g.TD 48 × (Between 1 g.since 1000 × Between 0 g.Tcold 48)))
  unfolding times_in_range
  times_is = also 1 g.TU 48 _ (also 1 g.TD 48 _ (also 1 g.since 1000 _ (between_is 0 g.Tcold 48)))

  groups_are : T (in_range g)
      ↔ ((Between 0 g.a 1000000000 × (Between 0 g.b 10000000 × (Between 0 g.c 10000 × (Between 0 g.Hsc 1000000000
      × (Between 0 g.Csc 1000000000 × Between 0 g.Dc 1000000000)))))
      × ((Between 1 g.pL 10000 × (Between 1 g.pU 10000 × (Between 1 g.DR 10000 × (Between 1 g.UR 10000
      × Between 0 g.p0 10000))))
      × (Between 1 g.TU 48 × (Between 1 g.TD 48 × (Between 1 g.since 1000 × Between 0 g.Tcold 48)))))
  unfolding in_range
  groups_are =
      and_is (costs_in_range g) (outputs_in_range g && times_in_range g) costs_is
      (and_is (outputs_in_range g) (times_in_range g) outputs_is times_is)

  -- 13 of a unit line
  pub in_range_is : T (in_range g) ↔ InRange g
  in_range_is = (
    λ t. let p = groups_are.0 t in
        record {
          a_in = p.0.0;
          b_in = p.0.1.0;
          c_in = p.0.1.1.0;
          pL_in = p.1.0.0;
          pU_in = p.1.0.1.0;
          TU_in = p.1.1.0;
          TD_in = p.1.1.1.0;
          since_in = p.1.1.1.1.0;
          DR_in = p.1.0.1.1.0;
          UR_in = p.1.0.1.1.1.0;
          Hsc_in = p.0.1.1.1.0;
          Csc_in = p.0.1.1.1.1.0;
          Tcold_in = p.1.1.1.1.1;
          Dc_in = p.0.1.1.1.1.1;
          p0_in = p.1.0.1.1.1.1;
        },
    λ R. groups_are.1 (
      (R.a_in, (R.b_in, (R.c_in, (R.Hsc_in, (R.Csc_in, R.Dc_in))))),
      ((R.pL_in, (R.pU_in, (R.DR_in, (R.UR_in, R.p0_in)))), (R.TU_in, (R.TD_in, (R.since_in, R.Tcold_in)))),
    ),
  )

  midnight_is : T (midnight_ordered g)
      ↔ ((T g.on → Between g.pL g.p0 g.pU) × (T (not g.on) → g.p0 ≡ 0))
  unfolding midnight_ordered
  midnight_is = chosen g.on (between g.pL g.p0 g.pU) (eqb g.p0 0) (between_is g.pL g.p0 g.pU) (eqb_is g.p0 0)

  orders_are : T (ordered g)
      ↔ ((g.pL ≤ g.pU) × ((g.Hsc ≤ g.Csc) × ((T g.on → Between g.pL g.p0 g.pU) × (T (not g.on) → g.p0 ≡ 0))))
  unfolding ordered
  orders_are =
      and_is (leb g.pL g.pU) (leb g.Hsc g.Csc && midnight_ordered g) (leb_is _ _)
      (and_is (leb g.Hsc g.Csc) (midnight_ordered g) (leb_is _ _) midnight_is)

  -- 15 of a unit line
  pub ordered_is : T (ordered g) ↔ Ordered g
  ordered_is = (
    λ t. let p = orders_are.0 t in record { limits = p.0; starts = p.1.0; midnight = p.1.1 },
    λ R. orders_are.1 (R.limits, (R.starts, R.midnight)),
  )

  -- a unit line that both tests let through
  pub good_unit : T (in_range g) → T (ordered g) → GoodUnit g
  good_unit t o = record { in_range = in_range_is.0 t; ordered = ordered_is.0 o }

  pub generator_is : T (good_generator g) ↔ GoodUnit g
  generator_is = (
    λ t. good_unit (T_and_l (in_range g) (ordered g) t) (T_and_r (in_range g) (ordered g) t),
    λ G. T_and (in_range g) (ordered g) (in_range_is.1 G.in_range) (ordered_is.1 G.ordered),
  )

  -- a good unit was on before period 1 exactly when its output at midnight is above 0
  pub on_at_midnight : GoodUnit g → on g.p0 ≡ g.on
  on_at_midnight G = go g.on refl
    where
      above : (p : ℕ) → 1 ≤ p → on p ≡ true
      above zero h = absurd (omega arith)
      above (suc p) h = refl

      go : (b : Bool) → g.on ≡ b → on g.p0 ≡ g.on
      go true e =
          above g.p0 (omega (arith, G.in_range.pL_in.0, (G.ordered.midnight.0 (true_T g.on e)).0)) ∙ sym e
      go false e = ap on (G.ordered.midnight.1 (rw e tt)) ∙ sym e
