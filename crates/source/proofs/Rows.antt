-- One unit: a row of outputs obeys the model's rules exactly if (4) to (12) hold for it, u being 1 where the output is above 0.
-- Output by output (4) fixes u, and (11) and (12) say nothing unless both outputs are above 0.
use mathlib.Core.Path.{◌≡◌, refl, sym, ◌∙◌, ap}
use mathlib.Core.Bool.{Bool, true, false, not}
use mathlib.Core.Logic.{◌↔◌}
use mathlib.Core.List.{List}
use Prim.Native.Nat.{ℕ, zero, suc, ◌+◌, ◌*◌, ◌-◌, ◌≤◌, ◌<◌}
use native.Mathlib.Omega.{arith}
use lib.Dec.{T}
use lib.ListN.{length, length-map, get_or-map}
use Rattle.model.specs.declared.generator.Generator.{Generator}
use Rattle.model.specs.Instance.{◌at◌}
use Rattle.model.specs.Rules.{on, statuses, Within, Ramp, Row}
use Rattle.source.specs.Source.{nth, ToT, Bits, UnitSource, bit, from, u_row}
use Rattle.source.proofs.Indices.{from_one, from_two}
use Rattle.source.proofs.Stays.{num_le, Reads}
use Rattle.source.proofs.UpDown.{keeps→updown, updown→keeps}
use Rattle.source.proofs.Ranged.{Ranged}

-- ---- (4), of one output

pub within→eq4 : (g : Generator) (p : ℕ) → Within g p → (bit (on p) * g.pL ≤ p) × (p ≤ g.pU * bit (on p))
within→eq4 g zero w = (omega arith, omega arith)
within→eq4 g (suc p) w = (omega (arith, (w tt).0), omega (arith, (w tt).1))

pub eq4→within : (g : Generator) (p : ℕ) → bit (on p) * g.pL ≤ p → p ≤ g.pU * bit (on p) → Within g p
eq4→within g zero h i = λ t. absurd t
eq4→within g (suc p) h i = λ t. (omega arith, omega arith)

-- from pL 1 on, the output tells the status
eq4_status : (g : Generator) (u p : ℕ) → 1 ≤ g.pL → u ≤ 1 → u * g.pL ≤ p → p ≤ g.pU * u → u ≡ bit (on p)
eq4_status g zero zero l h i j = refl
eq4_status g zero (suc p) l h i j = absurd (omega arith)
eq4_status g (suc zero) zero l h i j = absurd (omega arith)
eq4_status g (suc zero) (suc p) l h i j = refl
eq4_status g (suc (suc u)) p l h i j = absurd (omega arith)

-- ---- (11), (12), of two outputs in a row, b being the status with the first

abbrev pub Eq11 : Generator → Bool → ℕ → ℕ → Type 0
Eq11 g b p p' = p ≤ p' + g.DR * bit b + g.pU * (1 - bit (on p'))

abbrev pub Eq12 : Generator → Bool → ℕ → ℕ → Type 0
Eq12 g b p p' = p' ≤ p + g.UR * bit b + g.pU * (1 - bit b)

pub ramp→eq : (g : Generator) (b : Bool) (p p' : ℕ) → (T b → p ≤ g.pU) → (T (not b) → p ≡ 0) → Within g p'
    → (T b → T (on p') → Ramp g p p') → Eq11 g b p p' × Eq12 g b p p'
ramp→eq g true p zero m z w r = (omega (arith, m tt), omega arith)
ramp→eq g true p (suc p') m z w r = (omega (arith, (r tt tt).fall), omega (arith, (r tt tt).rise))
ramp→eq g false p zero m z w r = (omega (arith, z tt), omega arith)
ramp→eq g false p (suc p') m z w r = (omega (arith, z tt), omega (arith, (w tt).1))

pub eq→ramp : (g : Generator) (b : Bool) (p p' : ℕ) → Eq11 g b p p' → Eq12 g b p p' → T b → T (on p') → Ramp g p p'
eq→ramp g true p zero h i t t' = absurd t'
eq→ramp g true p (suc p') h i t t' = record { rise = omega arith; fall = omega arith }
eq→ramp g false p p' h i t t' = absurd t

off_none : (p : ℕ) → T (not (on p)) → p ≡ 0
off_none zero t = refl
off_none (suc p) t = absurd t

-- ---- a row

pub row_reads : (g : Generator) (r : List ℕ) → Reads (from g (u_row r)) (statuses r)
row_reads g r t l = ap bit (sym (get_or-map on r t 0))

pub row_bits : (n : ℕ) (r : List ℕ) → Bits n (u_row r)
row_bits n r t l m = num_le (on (nth r t))

module _ (n : ℕ) (g : Generator) (r : List ℕ) where
  pub row→source : Row n g r → UnitSource n g (u_row r) (nth r)
  row→source R = record {
    eq4 = from_one n _ (λ t l. within→eq4 g (r at t) (R.limits t l));
    eq5_10 = keeps→updown n g (u_row r) (statuses r) (length-map r on ∙ R.long) (row_reads g r) R.updown;
    eq11 = from_two n (λ s t. Eq11 g (on (nth r s)) (nth r s) (nth r t)) (λ t l. (ramps t l).0);
    eq12 = from_two n (λ s t. Eq12 g (on (nth r s)) (nth r s) (nth r t)) (λ t l. (ramps t l).1);
    eq22 = row_bits n r;
  }
    where
      ramps : (t : ℕ) → suc t < n → Eq11 g (on (r at t)) (r at t) (r at suc t) × Eq12 g (on (r at t)) (r at t) (r at suc t)
      ramps t l =
          ramp→eq g (on (r at t)) (r at t) (r at suc t) (λ h. (R.limits t (omega arith) h).1) (off_none (r at t)) (R.limits (suc t) l)
          (R.ramps t l)

  pub source→row : 1 ≤ g.since → length r ≡ n → UnitSource n g (u_row r) (nth r) → Row n g r
  source→row started e S = record {
    long = e;
    limits = λ t l. eq4→within g (r at t) (S.eq4 (suc t) (omega arith) l).0 (S.eq4 (suc t) (omega arith) l).1;
    updown = updown→keeps n g (u_row r) (statuses r) (length-map r on ∙ e) (row_reads g r) started (row_bits n r) S.eq5_10;
    ramps = λ t l. let q : suc (suc t) - 1 ≡ suc t = omega arith in
        eq→ramp g (on (r at t)) (r at t) (r at suc t) (rw q at (S.eq11 (suc (suc t)) (omega arith) l))
        (rw q at (S.eq12 (suc (suc t)) (omega arith) l));
  }

  -- of the ranges this wants only that Tini is not 0
  pub row_is : 1 ≤ g.since → Row n g r ↔ ((length r ≡ n) × UnitSource n g (u_row r) (nth r))
  row_is started = (λ R. (R.long, row→source R), λ h. source→row started h.0 h.1)

-- ---- any u

-- whatever solves (4) has the statuses of its outputs
pub source_status : (n : ℕ) (g : Generator) (u p : ℕ → ℕ) → Ranged g → UnitSource n g u p → (t : ℕ) → 1 ≤ t → t ≤ n → u t ≡ bit (on (p t))
source_status n g u p R S t l m = eq4_status g (u t) (p t) R.low (S.eq22 t l m) (S.eq4 t l m).0 (S.eq4 t l m).1

-- the equations look at u and p in the periods 1 to T only
module _ (n : ℕ) (g : Generator) (u v : ℕ → ℕ) (e : (t : ℕ) → 1 ≤ t → t ≤ n → u t ≡ v t) where
  pub updown_same : ToT n g u → ToT n g v
  updown_same S = record {
    eq5 = λ h t l k m. sym (e t l m) ∙ S.eq5 h t l k m;
    eq6 = λ h t l k m. sym (e t l m) ∙ S.eq6 h t l k m;
    eq7 = λ t l m j i k m'. omega (arith, e t (omega arith) m, e (t - 1) (omega arith) (omega arith), e (t + j) (omega arith) m', S.eq7 t l m j i k m');
    eq8 = λ h j i k m'. omega (arith, e 1 (omega arith) (omega arith), e (1 + j) (omega arith) m', S.eq8 h j i k m');
    eq9 = λ t l m j i k m'. omega (arith, e t (omega arith) m, e (t - 1) (omega arith) (omega arith), e (t + j) (omega arith) m', S.eq9 t l m j i k m');
    eq10 = λ h j i k m'. omega (arith, e 1 (omega arith) (omega arith), e (1 + j) (omega arith) m', S.eq10 h j i k m');
  }

  pub source_same : (p q : ℕ → ℕ) → ((t : ℕ) → 1 ≤ t → t ≤ n → p t ≡ q t) → UnitSource n g u p → UnitSource n g v q
  source_same p q f S = record {
    eq4 = λ t l m. rw (← e t l m, ← f t l m) (S.eq4 t l m);
    eq5_10 = updown_same S.eq5_10;
    eq11 = λ t l m. rw (← e t (omega arith) m, ← e (t - 1) (omega arith) (omega arith), ← f t (omega arith) m, ← f (t - 1) (omega arith) (omega arith))
        (S.eq11 t l m);
    eq12 = λ t l m. rw (← e (t - 1) (omega arith) (omega arith), ← f t (omega arith) m, ← f (t - 1) (omega arith) (omega arith)) (S.eq12 t l m);
    eq22 = λ t l m. rw (← e t l m) (S.eq22 t l m);
  }
