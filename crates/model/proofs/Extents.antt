-- Marks and counts matter only at the problem's units and periods, so that an array of them will do: what a leaf says is a function of walks
-- and sums, and these look no further.
use mathlib.Core.Path.{◌≡◌, refl, sym, ◌∙◌, ap, ap₂, transport}
use mathlib.Core.Bool.{Bool, true, false, cond, ◌||◌}
use mathlib.Core.Option.{none, some}
use mathlib.Core.List.{List, [], ◌∷◌}
use mathlib.Core.Logic.{◌⊎◌}
use Prim.Native.Nat.{ℕ, zero, suc, pred, ◌+◌, ◌*◌, ◌<◌}
use native.Mathlib.Omega.{arith}
use lib.Dec.{T, eqb}
use lib.ListN.{length}
use lib.IntN.{ℤ, pos, ◌+ℤ◌}
use Rattle.model.specs.declared.generator.Generator.{Generator}
use Rattle.model.specs.Instance.{Instance, ◌at◌}
use Rattle.model.specs.Ranges.{All, GoodUnit}
use Rattle.model.specs.Above.{Mark, Marks, rest, Above, AboveMost}
use Rattle.model.specs.Leaf.{unless_off, usable, summed, available, if_fixed_on, fixed_on, Crowded, is_stuck, stuck_at, any_stuck, unit_least, units_least, requirement, leaf_value}
use Rattle.model.specs.Ramps.{ramp_least, Steps, rest_steps, ups, downs, ramp_leasts, ramp_leaf_value}
use Rattle.std.specs.Prelude.{Some as number}
use Rattle.model.specs.Tree.{Leaf, short, crowd, stuck, price, ramp, LeafHolds, leaf_bound}
use Rattle.model.specs.Prices.{offset, decoded}
use Rattle.model.proofs.PeriodSums.{sum_eq}
use Rattle.model.proofs.Stuck.{is_stuck_is}
use Rattle.model.proofs.PriceWalks.{unit_decoded}
use Rattle.model.proofs.UnitLeasts.{stuck_least, stuck_ramp_least}
use Rattle.model.proofs.RampWalks.{ramp_decoded}
use Rattle.model.proofs.RampPeriods.{ramp_walk_ext, ramp_offset_ext}
use Rattle.model.proofs.WalkPeriods.{walk_ext, price_walk_ext}

-- the same in the first n periods
abbrev pub Same : {A : Type 0} → ℕ → (ℕ → A) → (ℕ → A) → Type 0
Same n f h = (t : ℕ) → t < n → f t ≡ h t

-- the same marks for I units in T periods
abbrev pub SameMarks : ℕ → ℕ → Marks → Marks → Type 0
SameMarks I n m m' = (u : ℕ) → u < I → Same n (m u) (m' u)

-- ---- one unit

module _ (n : ℕ) (g : Generator) (m m' : ℕ → Mark) (h : Same n m m') where
  pub is_stuck_ext : is_stuck n g m ≡ is_stuck n g m'
  is_stuck_ext =
      is_stuck_is n g m (λ t d. 0)
      ∙ ap (λ (v : ℕ). eqb v 0) (walk_ext n g m m' (λ t d. 0) (λ t d. 0) h (λ t l d. refl) g.on g.since)
      ∙ sym (is_stuck_is n g m' (λ t d. 0))

  -- two values, each the least where its unit is not stuck and 0 where it is
  same_least : (x y : ℤ) → (T (is_stuck n g m) → x ≡ pos 0) → (T (is_stuck n g m') → y ≡ pos 0)
      → cond (is_stuck n g m) none (some x) ≡ cond (is_stuck n g m') none (some y) → x ≡ y
  same_least x y hx hy k = go (is_stuck n g m) (is_stuck n g m') is_stuck_ext hx hy k
    where
      go : (b b' : Bool) → b ≡ b' → (T b → x ≡ pos 0) → (T b' → y ≡ pos 0) → cond b none (some x) ≡ cond b' none (some y) → x ≡ y
      go true true e f f' k = f tt ∙ sym (f' tt)
      go true false e f f' k = absurd (let z : ◌≡◌ {A = ℕ} 0 1 = cc in omega arith)
      go false true e f f' k = absurd (let z : ◌≡◌ {A = ℕ} 0 1 = cc in omega arith)
      go false false e f f' k = cc

  pub unit_least_ext : GoodUnit g → (q q' s s' : ℕ → ℕ) → Same n q q' → Same n s s' → unit_least n q s g m ≡ unit_least n q' s' g m'
  unfolding offset
  unit_least_ext good q q' s s' hq hs =
      same_least (unit_least n q s g m) (unit_least n q' s' g m') (stuck_least n q s g m) (stuck_least n q' s' g m') both
    where
      added : offset n q s g ≡ offset n q' s' g
      added = sum_eq n (λ t. (q t + s t) * g.pU) (λ t. (q' t + s' t) * g.pU) (λ t l. ap₂ (λ (a b : ℕ). (a + b) * g.pU) (hq t l) (hs t l))

      both : cond (is_stuck n g m) none (some (unit_least n q s g m)) ≡ cond (is_stuck n g m') none (some (unit_least n q' s' g m'))
      both =
          unit_decoded n q s g good m
          ∙ ap₂ decoded (price_walk_ext n q q' s s' g m m' hq hs h) added
          ∙ sym (unit_decoded n q' s' g good m')

  pub ramp_least_ext : GoodUnit g → (q q' s s' x x' y y' : ℕ → ℕ) → Same n q q' → Same n s s' → Same (pred n) x x' → Same (pred n) y y'
      → ramp_least n q s x y g m ≡ ramp_least n q' s' x' y' g m'
  ramp_least_ext good q q' s s' x x' y y' hq hs hx hy =
      same_least (ramp_least n q s x y g m) (ramp_least n q' s' x' y' g m') (stuck_ramp_least n q s x y g m) (stuck_ramp_least n q' s' x' y' g m')
      (ramp_decoded n q s x y g good m
      ∙ ap₂ decoded (ramp_walk_ext n g m m' h q q' s s' x x' y y' hq hs hx hy) (ramp_offset_ext n g q q' s s' x x' y y' hq hs hx hy)
      ∙ sym (ramp_decoded n q' s' x' y' g good m'))

-- ---- all units

module _ (n : ℕ) where
  pub stuck_at_ext : (gs : List Generator) (m m' : Marks) → SameMarks (length gs) n m m' → (U : ℕ) → stuck_at n gs m U ≡ stuck_at n gs m' U
  stuck_at_ext [] m m' h U = refl
  stuck_at_ext (g ∷ gs) m m' h zero = is_stuck_ext n g (m 0) (m' 0) (h 0 (omega arith))
  stuck_at_ext (g ∷ gs) m m' h (suc U) = stuck_at_ext gs (rest m) (rest m') (λ u l. h (suc u) (omega arith)) U

  pub any_stuck_ext : (gs : List Generator) (m m' : Marks) → SameMarks (length gs) n m m' → any_stuck n gs m ≡ any_stuck n gs m'
  any_stuck_ext [] m m' h = refl
  any_stuck_ext (g ∷ gs) m m' h =
      ap₂ ◌||◌ (is_stuck_ext n g (m 0) (m' 0) (h 0 (omega arith))) (any_stuck_ext gs (rest m) (rest m') (λ u l. h (suc u) (omega arith)))

  pub usable_ext : (gs : List Generator) (m m' : Marks) → SameMarks (length gs) n m m' → (t : ℕ) → t < n → usable gs m t ≡ usable gs m' t
  unfolding usable
  usable_ext [] m m' h t l = refl
  usable_ext (g ∷ gs) m m' h t l =
      ap₂ (λ (x : Mark) (k : List ℕ). unless_off x g.pU k) (h 0 (omega arith) t l) (usable_ext gs (rest m) (rest m') (λ u i. h (suc u) (omega arith)) t l)

  pub fixed_on_ext : (gs : List Generator) (m m' : Marks) → SameMarks (length gs) n m m' → (t : ℕ) → t < n → fixed_on gs m t ≡ fixed_on gs m' t
  unfolding fixed_on
  fixed_on_ext [] m m' h t l = refl
  fixed_on_ext (g ∷ gs) m m' h t l =
      ap₂ ◌+◌ (ap if_fixed_on (h 0 (omega arith) t l)) (fixed_on_ext gs (rest m) (rest m') (λ u i. h (suc u) (omega arith)) t l)

  pub units_least_ext : (gs : List Generator) → All GoodUnit gs → (m m' : Marks) → SameMarks (length gs) n m m' → (q q' s s' : ℕ → ℕ) → Same n q q' → Same n s s'
      → units_least n q s gs m ≡ units_least n q' s' gs m'
  unfolding units_least
  units_least_ext [] G m m' h q q' s s' hq hs = refl
  units_least_ext (g ∷ gs) G m m' h q q' s s' hq hs =
      ap₂ ◌+ℤ◌ (unit_least_ext n g (m 0) (m' 0) (h 0 (omega arith)) G.0 q q' s s' hq hs)
      (units_least_ext gs G.1 (rest m) (rest m') (λ u l. h (suc u) (omega arith)) q q' s s' hq hs)

  pub ramp_leasts_ext : (gs : List Generator) → All GoodUnit gs → (m m' : Marks) → SameMarks (length gs) n m m' → (q s : ℕ → ℕ) (x y : Steps)
      → ramp_leasts n q s x y gs m ≡ ramp_leasts n q s x y gs m'
  unfolding ramp_leasts
  ramp_leasts_ext [] G m m' h q s x y = refl
  ramp_leasts_ext (g ∷ gs) G m m' h q s x y =
      ap₂ ◌+ℤ◌
      (ramp_least_ext n g (m 0) (m' 0) (h 0 (omega arith)) G.0 q q s s (x 0) (x 0) (y 0) (y 0) (λ t l. refl) (λ t l. refl) (λ t l. refl) (λ t l. refl))
      (ramp_leasts_ext gs G.1 (rest m) (rest m') (λ u l. h (suc u) (omega arith)) q s (rest_steps x) (rest_steps y))

-- ---- a leaf

-- the same above a node, as far as the problem goes
pub record SameAbove (P : Instance) (A A' : Above) : Type 0 where
  pub marks : SameMarks (length P.units) P.periods A.marks A'.marks
  pub most : Same P.periods A.most A'.most
  pub least : Same P.periods A.least A'.least

module _ (P : Instance) (A A' : Above) (h : SameAbove P A A') (t : ℕ) (l : t < P.periods) where
  pub available_ext : available P A t ≡ available P A' t
  unfolding available
  available_ext = ap₂ summed (h.most t l) (usable_ext P.periods P.units A.marks A'.marks h.marks t l)

  pub crowded_ext : Crowded P A t ≡ Crowded P A' t
  crowded_ext =
      ap₂ ◌⊎◌ (ap₂ AboveMost (fixed_on_ext P.periods P.units A.marks A'.marks h.marks t l) (h.most t l))
      (ap₂ ◌<◌ (ap length (usable_ext P.periods P.units A.marks A'.marks h.marks t l)) (h.least t l))

module _ (P : Instance) (G : All GoodUnit P.units) where
  pub leaf_value_ext : (m m' : Marks) → SameMarks (length P.units) P.periods m m' → (q q' s s' : ℕ → ℕ) → Same P.periods q q' → Same P.periods s s'
      → leaf_value P m q s ≡ leaf_value P m' q' s'
  unfolding leaf_value requirement
  leaf_value_ext m m' h q q' s s' hq hs =
      ap₂ ◌+ℤ◌ (units_least_ext P.periods P.units G m m' h q q' s s' hq hs)
      (ap pos (sum_eq P.periods _ _ (λ t l. ap₂ (λ (x y : ℕ). x * P.demand at t + y * (P.demand at t + P.spare at t)) (hq t l) (hs t l))))

  pub leaf_bound_ext : (A A' : Above) → SameAbove P A A' → (l : Leaf) → leaf_bound P A l ≡ leaf_bound P A' l
  unfolding leaf_bound ramp_leaf_value
  leaf_bound_ext A A' h (short t) = refl
  leaf_bound_ext A A' h (crowd t) = refl
  leaf_bound_ext A A' h (stuck U) = refl
  leaf_bound_ext A A' h (price q s) =
      ap number (leaf_value_ext A.marks A'.marks h.marks (λ t. q at t) (λ t. q at t) (λ t. s at t) (λ t. s at t) (λ t l. refl) (λ t l. refl))
  leaf_bound_ext A A' h (ramp q s l) =
      ap (λ (z : ℤ). number (z +ℤ pos (requirement P (λ t. q at t) (λ t. s at t))))
      (ramp_leasts_ext P.periods P.units G A.marks A'.marks h.marks (λ t. q at t) (λ t. s at t) (ups l) (downs l))

  pub leaf_holds_ext : (A A' : Above) → SameAbove P A A' → (l : Leaf) → LeafHolds P A l → LeafHolds P A' l
  unfolding LeafHolds
  leaf_holds_ext A A' h (short t) k = (k.0, omega (arith, available_ext P A A' h t k.0, k.1))
  leaf_holds_ext A A' h (crowd t) k = (k.0, transport (crowded_ext P A A' h t k.0) k.1)
  leaf_holds_ext A A' h (stuck U) k = rw (stuck_at_ext P.periods P.units A.marks A'.marks h.marks U) at k
  leaf_holds_ext A A' h (price q s) k = rw (any_stuck_ext P.periods P.units A.marks A'.marks h.marks) at k
  leaf_holds_ext A A' h (ramp q s l) k = rw (any_stuck_ext P.periods P.units A.marks A'.marks h.marks) at k
