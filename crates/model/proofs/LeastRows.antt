-- The run behind a unit's least value (document 02, [7]): the first row that has it is the one that the code follows; it comes before every other row that has it,
-- whether outputs are compared period by period or statuses first; and no other row does.
use mathlib.Core.Path.{◌≡◌, refl, sym, ◌∙◌, ap, ap₂, subst}
use mathlib.Core.Bool.{Bool, true, false, not, cond}
use mathlib.Core.Logic.{◌⊎◌, inl, inr, ◌↔◌}
use mathlib.Core.List.Memᴰ
use mathlib.Core.List.{List, [], ◌∷◌, Memᴰ}
use Prim.Native.Nat.{ℕ, zero, suc, ◌+◌, ◌≤◌, ◌<◌}
use native.Mathlib.Nat.{suc_inj, eq-or-lt_of_le}
use native.Mathlib.Omega.{arith}
use lib.Dec.{T}
use lib.IntN.{ℤ, pos, ◌-ℤ◌}
use lib.ListN.{length, length-map, get_or}
use lib.Signed.{le_z, ≤ℤ_refl}
use Rattle.model.specs.declared.generator.Generator.{Generator}
use Rattle.model.specs.Instance.{◌at◌}
use Rattle.model.specs.Ranges.{GoodUnit}
use Rattle.model.specs.Rules.{on, if_on, statuses, Within, spent}
use Rattle.model.specs.Cost.{row_cost}
use Rattle.model.specs.Above.{Mark}
use Rattle.model.specs.Leaf.{rows_of, is_stuck, revenue, value, unit_least}
use Rattle.model.specs.Walk.{walk}
use Rattle.model.specs.Prices.{BestAt, best_output, worth, price_walk, offset}
use Rattle.model.specs.Agreement.{Candidate}
use Rattle.model.specs.Runs.{equal, first_with, least_row, Attains, AlikeUntil, Precedes, Smaller, ByOutputs, OffFirst, ByStatuses}
use Rattle.model.specs.RunWalk.{first_run, row_of, walked_row}
use Rattle.model.proofs.Tests.{T_and, T_and_l, T_and_r}
use Rattle.model.proofs.Integers.{up, down, -ℤ-nat, nat→eq}
use Rattle.model.proofs.Leasts.{≤ℤ-antisym}
use Rattle.model.proofs.Lowest.{compare}
use Rattle.model.proofs.BestOutputs.{best_at_is}
use Rattle.model.proofs.WalkRuns.{later, run_total, obeys→obeying, obeying→obeys, walk_below_run}
use Rattle.model.proofs.WalkRows.{row_total, Cheapest, row_of_long, row_of_within, row_of_statuses, row_of_total, status_below, statuses_below}
use Rattle.model.proofs.Candidates.{rows_of_are}
use Rattle.model.proofs.Stuck.{not_stuck_walk}
use Rattle.model.proofs.PriceWalks.{shifted, shifted_cheapest, row_shifted, unit_least_is}
use Rattle.model.proofs.FirstRuns.{Reaches, first_run_reaches, Earlier, first_run_first, earlier_at}
use Rattle.model.proofs.SortedRows.{InOrder, rows_order, smaller_asym}

-- ---- what precedes, by outputs and by statuses

-- an output up to the first period that differs, 0 for off, is no larger
no_larger_at : (r r' : List ℕ) → Precedes r r' → (t : ℕ) → AlikeUntil t r r' → r at t ≤ r' at t
no_larger_at r r' h t a = go (r at t) (λ o. h.no_larger t a o (h.off t a o))
  where
    go : (p : ℕ) → (T (on p) → p ≤ r' at t) → p ≤ r' at t
    go zero f = omega arith
    go (suc p) f = f tt

same_or_smaller : (r r' : List ℕ) → length r ≡ length r' → ((t : ℕ) → ((v : ℕ) → v < t → r at v ≡ r' at v) → r at t ≤ r' at t) → ByOutputs r r'
same_or_smaller [] [] e h = inl refl
same_or_smaller [] (p' ∷ r') e h = absurd (omega arith)
same_or_smaller (p ∷ r) [] e h = absurd (omega arith)
same_or_smaller (p ∷ r) (p' ∷ r') e h = go (eq-or-lt_of_le (h 0 (λ v l. absurd (omega arith)))) (λ k. same_or_smaller r r' (suc_inj e) k)
  where
    before : p ≡ p' → (t : ℕ) → ((v : ℕ) → v < t → r at v ≡ r' at v) → (v : ℕ) → v < suc t → (p ∷ r) at v ≡ (p' ∷ r') at v
    before i t k zero l = i
    before i t k (suc v) l = k v (omega arith)

    more : p ≡ p' → ByOutputs r r' → ByOutputs (p ∷ r) (p' ∷ r')
    more i (inl j) = inl (ap₂ ◌∷◌ i j)
    more i (inr s) = inr (record { period = suc s.period; same = before i s.period s.same; less = s.less })

    go : (p ≡ p') ⊎ (p < p') → (((t : ℕ) → ((v : ℕ) → v < t → r at v ≡ r' at v) → r at t ≤ r' at t) → ByOutputs r r') → ByOutputs (p ∷ r) (p' ∷ r')
    go (inl i) ih = more i (ih (λ t k. h (suc t) (before i t k)))
    go (inr l) ih = inr (record { period = 0; same = λ v l. absurd (omega arith); less = l })

pub precedes_outputs : (r r' : List ℕ) → length r ≡ length r' → Precedes r r' → ByOutputs r r'
precedes_outputs r r' e h = same_or_smaller r r' e (λ t k. no_larger_at r r' h t (λ v l. ap on (k v l)))

off_or_same : (r r' : List ℕ) → length r ≡ length r' → ((t : ℕ) → AlikeUntil t r r' → T (on (r at t)) → T (on (r' at t))) → OffFirst r r' ⊎ (statuses r ≡ statuses r')
off_or_same [] [] e h = inr refl
off_or_same [] (p' ∷ r') e h = absurd (omega arith)
off_or_same (p ∷ r) [] e h = absurd (omega arith)
off_or_same (p ∷ r) (p' ∷ r') e h = go (on p) (on p') refl refl (h 0 (λ v l. absurd (omega arith))) (λ k. off_or_same r r' (suc_inj e) k)
  where
    before : on p ≡ on p' → (t : ℕ) → AlikeUntil t r r' → AlikeUntil (suc t) (p ∷ r) (p' ∷ r')
    before i t k zero l = i
    before i t k (suc v) l = k v (omega arith)

    more : on p ≡ on p' → OffFirst r r' ⊎ (statuses r ≡ statuses r') → OffFirst (p ∷ r) (p' ∷ r') ⊎ (statuses (p ∷ r) ≡ statuses (p' ∷ r'))
    more i (inl o) = inl (record { period = suc o.period; alike = before i o.period o.alike; off = o.off; on_there = o.on_there })
    more i (inr j) = inr (ap₂ ◌∷◌ i j)

    Rest : Type 0
    Rest = ((t : ℕ) → AlikeUntil t r r' → T (on (r at t)) → T (on (r' at t))) → OffFirst r r' ⊎ (statuses r ≡ statuses r')

    alike : on p ≡ on p' → Rest → OffFirst (p ∷ r) (p' ∷ r') ⊎ (statuses (p ∷ r) ≡ statuses (p' ∷ r'))
    alike i ih = more i (ih (λ t k. h (suc t) (before i t k)))

    go : (c d : Bool) → on p ≡ c → on p' ≡ d → (T (on p) → T (on p')) → Rest → OffFirst (p ∷ r) (p' ∷ r') ⊎ (statuses (p ∷ r) ≡ statuses (p' ∷ r'))
    go true true i j f ih = alike (i ∙ sym j) ih
    go false false i j f ih = alike (i ∙ sym j) ih
    go false true i j f ih = inl (record { period = 0; alike = λ v l. absurd (omega arith); off = rw i tt; on_there = rw j tt })
    go true false i j f ih = absurd (subst (λ (b : Bool). T b) j (f (rw i tt)))

pub precedes_statuses : (r r' : List ℕ) → length r ≡ length r' → Precedes r r' → ByStatuses r r'
precedes_statuses r r' e h = go (off_or_same r r' e h.off)
  where
    go : OffFirst r r' ⊎ (statuses r ≡ statuses r') → ByStatuses r r'
    go (inl o) = inl o
    go (inr s) = inr (s, precedes_outputs r r' e h)

-- ---- the first of a list in order

equal_is : (x y : ℤ) → T (equal x y) ↔ (x ≡ y)
equal_is x y = (
  λ t. ≤ℤ-antisym x y (record { le = T_and_l (le_z x y) (le_z y x) t }) (record { le = T_and_r (le_z x y) (le_z y x) t }),
  λ e. subst (λ (z : ℤ). T (equal x z)) e (T_and (le_z x x) (le_z x x) (leZ_refl x) (leZ_refl x)),
)
  where
    leZ_refl : (z : ℤ) → T (le_z z z)
    leZ_refl z = (≤ℤ_refl z).le

-- a member with the value that stands before all others with it is the first with it
first_is : (val : List ℕ → ℤ) (z : ℤ) (l : List (List ℕ)) → InOrder Smaller l → (r : List ℕ) → Memᴰ r l → val r ≡ z
    → ((r' : List ℕ) → Memᴰ r' l → val r' ≡ z → ByOutputs r r') → first_with val z l ≡ r
first_is val z [] o r i e h = absurd (Memᴰ.not-nil i)
first_is val z (x ∷ l) o r i e h = go (equal (val x) z) (equal_is (val x) z).0 (equal_is (val x) z).1 (Memᴰ.cases_cons i)
    (λ m. first_is val z l o.1 r m e (λ r' m' e'. h r' (Memᴰ.tail m') e'))
  where
    go : (c : Bool) → (T c → val x ≡ z) → (val x ≡ z → T c) → (r ≡ x) ⊎ Memᴰ r l → (Memᴰ r l → first_with val z l ≡ r) → cond c x (first_with val z l) ≡ r
    go true f k (inl j) ih = sym j
    go true f k (inr m) ih = either (h x (Memᴰ.head refl) (f tt))
      where
        either : ByOutputs r x → x ≡ r
        either (inl j) = sym j
        either (inr s) = absurd (smaller_asym r x s (o.0 r m))
    go false f k (inl j) ih = absurd (k (sym (ap val j) ∙ e))
    go false f k (inr m) ih = ih m

-- ---- each period of a row that costs no more than its statuses

-- costs its status's least
tight : (g : Generator) (n : ℕ) (c : ℕ → ℕ → ℕ) (w : ℕ → Bool → ℕ) (o : ℕ → ℕ) → ((t : ℕ) → Cheapest g (c t) (w t) (o t)) → (b : Bool) (k : ℕ)
    (r : List ℕ) → length r ≡ n → ((t : ℕ) → t < n → Within g (r at t)) → row_total n g c b k r ≤ run_total g w b k (statuses r)
    → (t : ℕ) → t < n → c t (r at t) ≡ w t (on (r at t))
tight g zero c w o h b k r e l i t lt = absurd (omega arith)
tight g (suc n) c w o h b k [] e l i t lt = absurd (omega arith)
tight g (suc n) c w o h b k (p ∷ r) e l i zero lt =
    omega (
      arith,
      i,
      status_below g (c 0) (w 0) (o 0) (h 0) p (l 0 (omega arith)),
      statuses_below g n (later c) (later w) (later o) (λ t. h (suc t)) (on p) (spent b k (on p)) r (suc_inj e) (λ t i. l (suc t) (omega arith)),
    )
tight g (suc n) c w o h b k (p ∷ r) e l i (suc t) lt =
    tight g n (later c) (later w) (later o) (λ t. h (suc t)) (on p) (spent b k (on p)) r (suc_inj e) (λ t i. l (suc t) (omega arith))
    (omega (arith, i, status_below g (c 0) (w 0) (o 0) (h 0) p (l 0 (omega arith)))) t (omega arith)

-- ---- the row that the code follows

on_at : (r : List ℕ) (t : ℕ) → get_or (statuses r) t false ≡ on (r at t)
on_at [] t = refl
on_at (p ∷ r) zero = refl
on_at (p ∷ r) (suc t) = on_at r t

row_of_at : (o : ℕ → ℕ) (run : List Bool) (t : ℕ) → row_of o run at t ≡ if_on (get_or run t false) (o t)
row_of_at o [] t = refl
row_of_at o (d ∷ run) zero = refl
row_of_at o (d ∷ run) (suc t) = row_of_at (later o) run t

-- a period on is one of the row's
inside : (r : List ℕ) (t : ℕ) → T (on (r at t)) → t < length r
inside [] t i = absurd i
inside (p ∷ r) zero i = omega arith
inside (p ∷ r) (suc t) i = let h = inside r t i in omega arith

module _ (n : ℕ) (q s : ℕ → ℕ) (g : Generator) (good : GoodUnit g) (m : ℕ → Mark) (free : T (not (is_stuck n g m))) where
  abbrev c : ℕ → ℕ → ℕ
  c t = shifted g (q t) (s t)

  abbrev w : ℕ → Bool → ℕ
  w t = worth g (q t) (s t)

  abbrev o : ℕ → ℕ
  o t = best_output g (q t)

  abbrev run : List Bool
  run = first_run n g m w g.on g.since

  positive : 0 < g.pL
  positive = good.in_range.pL_in.0

  cheapest : (t : ℕ) → Cheapest g (c t) (w t) (o t)
  cheapest t = shifted_cheapest g good (q t) (s t)

  reaches : Reaches n g m w g.on g.since run
  reaches = first_run_reaches n g m w g.on g.since (not_stuck_walk n g m free w)

  walked_statuses : statuses (row_of o run) ≡ run
  walked_statuses = row_of_statuses g positive o (λ t. (cheapest t).low) run

  walked_candidate : Candidate n g m (row_of o run)
  walked_candidate = record {
    long = row_of_long o run ∙ reaches.obeying.long;
    limits = λ t i. row_of_within g o (λ t. ((cheapest t).low, (cheapest t).high)) run t;
    run = rw walked_statuses (obeying→obeys reaches.obeying);
  }

  walked_total : walk n g m w g.on g.since ≡ suc (row_total n g c g.on g.since (row_of o run))
  walked_total = reaches.total ∙ ap suc (sym (row_of_total g positive n c w o cheapest g.on g.since run reaches.obeying.long))

  -- a row has the least value exactly where it costs what the walk finds
  value_least : (r : List ℕ) → Candidate n g m r → (value n q s g r ≡ unit_least n q s g m) ↔ (walk n g m w g.on g.since ≡ suc (row_total n g c g.on g.since r))
  unfolding value price_walk
  value_least r C = go (walk n g m w g.on g.since) refl (not_stuck_walk n g m free w)
    where
      go : (v : ℕ) → walk n g m w g.on g.since ≡ v → 0 < v → (value n q s g r ≡ unit_least n q s g m) ↔ (v ≡ suc (row_total n g c g.on g.since r))
      go zero e h = absurd (omega arith)
      go (suc v) e h =
          let least : unit_least n q s g m ≡ pos v -ℤ pos (offset n q s g) = unit_least_is n q s g good m v e in
          let shift = row_shifted n q s g r C.limits in
          let x = -ℤ-nat (row_cost n g r) (revenue n q s g r) in
          let y = -ℤ-nat v (offset n q s g) in (
            λ i. let j : pos (row_cost n g r) -ℤ pos (revenue n q s g r) ≡ pos v -ℤ pos (offset n q s g) = i ∙ least in omega (arith, shift, x, y, ap up j, ap down j),
            λ i. same v i least shift x y,
          )
        where
          same : (v : ℕ) → suc v ≡ suc (row_total n g c g.on g.since r) → unit_least n q s g m ≡ pos v -ℤ pos (offset n q s g)
              → row_total n g c g.on g.since r + revenue n q s g r ≡ row_cost n g r + offset n q s g
              → up (pos (row_cost n g r) -ℤ pos (revenue n q s g r)) + revenue n q s g r ≡ row_cost n g r + down (pos (row_cost n g r) -ℤ pos (revenue n q s g r))
              → up (pos v -ℤ pos (offset n q s g)) + offset n q s g ≡ v + down (pos v -ℤ pos (offset n q s g))
              → pos (row_cost n g r) -ℤ pos (revenue n q s g r) ≡ unit_least n q s g m
          same v i least shift x y =
              nat→eq (pos (row_cost n g r) -ℤ pos (revenue n q s g r)) (pos v -ℤ pos (offset n q s g)) (omega (arith, i, shift, x, y)) ∙ sym least

  -- its periods
  walked_on : (t : ℕ) → on (row_of o run at t) ≡ get_or run t false
  walked_on t = sym (on_at (row_of o run) t) ∙ ap (λ (l : List Bool). get_or l t false) walked_statuses

  walked_at : (t : ℕ) → row_of o run at t ≤ o t
  walked_at t = rw (row_of_at o run t) (go (get_or run t false))
    where
      go : (d : Bool) → if_on d (o t) ≤ o t
      go true = omega arith
      go false = omega arith

  -- it has the least value
  walked_attains : Attains n q s g m (row_of o run)
  walked_attains = record { candidate = walked_candidate; least = (value_least (row_of o run) walked_candidate).1 walked_total }

  -- and comes before every row that has it
  module _ (r : List ℕ) (a : Attains n q s g m r) where
    C : Candidate n g m r
    C = a.candidate

    total : walk n g m w g.on g.since ≡ suc (row_total n g c g.on g.since r)
    total = (value_least r C).0 a.least

    above : run_total g w g.on g.since (statuses r) ≤ row_total n g c g.on g.since r
    above = statuses_below g n c w o cheapest g.on g.since r C.long C.limits

    under : walk n g m w g.on g.since ≤ suc (run_total g w g.on g.since (statuses r))
    under = (walk_below_run n g m w g.on g.since (statuses r) (obeys→obeying (length-map r on ∙ C.long) C.run)).1

    -- its statuses have the walk's value
    run_reaches : Reaches n g m w g.on g.since (statuses r)
    run_reaches = record { obeying = obeys→obeying (length-map r on ∙ C.long) C.run; total = omega (arith, total, above, under) }

    earlier : Earlier run (statuses r)
    earlier = first_run_first n g m w g.on g.since (statuses r) run_reaches

    -- each of its outputs is one that costs least, so no smaller than the smallest of these
    least_output : (t : ℕ) → t < n → T (on (r at t)) → o t ≤ r at t
    least_output t l i = go (r at t) i (C.limits t l) (tight g n c w o cheapest g.on g.since r C.long C.limits (omega (arith, total, under)) t l)
      where
        B : BestAt g g.b (q t) (o t)
        B = best_at_is g g.b (q t) good.ordered.limits

        go : (p : ℕ) → T (on p) → Within g p → c t p ≡ w t (on p) → o t ≤ p
        go zero i W e = absurd i
        go (suc p) i W e = either (compare (suc p) (o t))
          where
            either : (suc p < o t) ⊎ ((suc p ≡ o t) ⊎ (o t < suc p)) → o t ≤ suc p
            either (inl h) = absurd (omega (arith, e, B.first (suc p) (W tt).0 h))
            either (inr (inl h)) = omega arith
            either (inr (inr h)) = omega arith

    walked_precedes : Precedes (row_of o run) r
    walked_precedes = record {
      off = λ t k i.
          subst (λ (b : Bool). T b) (on_at r t)
          (earlier_at earlier t (λ v l. sym (walked_on v) ∙ k v l ∙ sym (on_at r v)) (subst (λ (b : Bool). T b) (walked_on t) i));
      no_larger = λ t k i j. omega (arith, least_output t (rw C.long at (inside r t j)) j, walked_at t);
    }

  -- ---- the first row that has the least value

  -- is the one that the code follows
  pub least_row_walk : least_row n q s g m ≡ walked_row n q s g m
  unfolding least_row walked_row
  least_row_walk =
      first_is (value n q s g) (unit_least n q s g m) (rows_of n g m) (rows_order n g m positive) (row_of o run)
      ((rows_of_are n g m (row_of o run)).1 walked_candidate) walked_attains.least
      (λ r' i e. by_outputs r' (record { candidate = (rows_of_are n g m r').0 i; least = e }))
    where
      by_outputs : (r' : List ℕ) → Attains n q s g m r' → ByOutputs (row_of o run) r'
      by_outputs r' a = precedes_outputs (row_of o run) r' (walked_candidate.long ∙ sym a.candidate.long) (walked_precedes r' a)

  is_walked : row_of o run ≡ least_row n q s g m
  unfolding walked_row
  is_walked = sym least_row_walk

  -- it is one of the rows, and has it
  pub least_row_attains : Attains n q s g m (least_row n q s g m)
  least_row_attains = subst (λ (r : List ℕ). Attains n q s g m r) is_walked walked_attains

  -- it precedes every row that has it
  pub least_row_precedes : (r : List ℕ) → Attains n q s g m r → Precedes (least_row n q s g m) r
  least_row_precedes r a = subst (λ (x : List ℕ). Precedes x r) is_walked (walked_precedes r a)

  long_as : (r : List ℕ) → Attains n q s g m r → length (least_row n q s g m) ≡ length r
  long_as r a = least_row_attains.candidate.long ∙ sym a.candidate.long

  -- so it is first by outputs and by statuses
  pub least_row_outputs : (r : List ℕ) → Attains n q s g m r → ByOutputs (least_row n q s g m) r
  least_row_outputs r a = precedes_outputs (least_row n q s g m) r (long_as r a) (least_row_precedes r a)

  pub least_row_statuses : (r : List ℕ) → Attains n q s g m r → ByStatuses (least_row n q s g m) r
  least_row_statuses r a = precedes_statuses (least_row n q s g m) r (long_as r a) (least_row_precedes r a)

  -- and no other row is, in any of the three ways
  module _ (r : List ℕ) (a : Attains n q s g m r) where
    pub only_outputs : ByOutputs r (least_row n q s g m) → r ≡ least_row n q s g m
    only_outputs h = go h (least_row_outputs r a)
      where
        go : ByOutputs r (least_row n q s g m) → ByOutputs (least_row n q s g m) r → r ≡ least_row n q s g m
        go (inl e) k = e
        go (inr x) (inl e) = sym e
        go (inr x) (inr y) = absurd (smaller_asym r (least_row n q s g m) x y)

    pub only_precedes : Precedes r (least_row n q s g m) → r ≡ least_row n q s g m
    only_precedes h = only_outputs (precedes_outputs r (least_row n q s g m) (sym (long_as r a)) h)

    pub only_statuses : ByStatuses r (least_row n q s g m) → r ≡ least_row n q s g m
    only_statuses (inr h) = only_outputs h.1
    only_statuses (inl h) =
        let t = (least_row_precedes r a).off h.period (λ v l. sym (h.alike v l)) h.on_there in
        absurd (both (on (r at h.period)) t h.off)
      where
        both : (b : Bool) → T b → T (not b) → ⊥
        both true x y = y
        both false x y = x
