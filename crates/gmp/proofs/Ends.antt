-- The last place of a run by one division: the code's formulas end the run. Assumes nothing.
use Prim.Native.Nat.{ℕ, suc, ◌+◌, ◌-◌, ◌*◌, ◌/◌, ◌%◌, ◌≤◌, ◌<◌}
use mathlib.Core.Bool.{Bool, true, false, not}
use mathlib.Core.Path.{◌≡◌, sym, ap, ◌∙◌}
use native.Mathlib.Nat.{add-mul, add-suc, mul-le-mul_right, div-mul-le_self, lt-div-mul-add}
use native.Mathlib.Decide.{dec_le}
use native.Mathlib.Omega.{arith}
use Rattle.gmp.specs.Places.{is_data}
use Rattle.gmp.specs.Steps.{Place}
use Rattle.gmp.specs.Runs.{EndsRun, last_of_run, runs_from}
use Rattle.gmp.proofs.Residues.{data_of, stuff_of, data_residue, stuff_residue, residue_up, residue_down, split, last_residue}
use Rattle.sizes.specs.Sizes.{places}
use Rattle.gmp.proofs.Stretches.{ends_by, ends_last, last_ends, runs_last, runs_more}

-- where no place is of the other kind the run goes to the last place
to_end : (c j : ℕ) (b : Bool) → Place c j → ((k : ℕ) → is_data c k ≡ b) → EndsRun c j places
to_end c j b p h =
    record { from = p.to; to = omega arith; same = λ k l m. h k ∙ sym (h j); other = λ l. absurd (omega arith) }

pub all_data : (c j : ℕ) → Place c j → c ≡ places → places ≡ last_of_run c j
all_data c j p e = ends_last c j places (to_end c j true p (λ k. data_of c k (let z : k * c % places ≡ 0 = rw e (omega arith) in omega arith)))

pub all_stuff : (c j : ℕ) → Place c j → c ≡ 0 → places ≡ last_of_run c j
all_stuff c j p e = ends_last c j places (to_end c j false p (λ k. stuff_of c k (omega arith)))

-- ---- a run of stuff: m is how often c fits into what the residue lacks

past_end : (x y : ℕ) → places ≤ x % places + y → x % places + y < places + places → (x + y) % places ≡ x % places + y - places
past_end x y h l = omega arith

module _ (c j m : ℕ) (p : Place c j) (pos : 0 < c) (s : c ≤ j * c % places)
    (low : m * c ≤ places - 1 - j * c % places) (high : places - 1 - j * c % places < m * c + c) where
  stuff_at : (k : ℕ) → k ≤ m → (j + k) * c % places ≡ j * c % places + k * c
  stuff_at k h = residue_up c j k (omega (arith, mul-le-mul_right c h))

  stuff_before : j + m < places
  stuff_before = by (dec_le (places - j) m)
    where
      by : Dec (places - j ≤ m) → j + m < places
      by (yes h) =
          let e : j + (places - j) ≡ places = omega (arith, p.to) in
          let z = ap (λ (x : ℕ). x * c % places) (sym e) ∙ stuff_at (places - j) h in
          absurd (omega (arith, last_residue c))
      by (no n) = omega arith

  stuff_behind : (j + suc m) * c % places < c
  stuff_behind =
      let w : suc m * c ≡ m * c + c = omega arith in
      let e : (j + suc m) * c ≡ j * c + (m * c + c) = add-mul j (suc m) c ∙ ap (λ (x : ℕ). j * c + x) w in
      rw (e, past_end (j * c) (m * c + c) (omega arith) (omega arith)) (omega arith)

  pub stuff_ends : EndsRun c j (j + m)
  stuff_ends =
      ends_by c j m false (omega (arith, stuff_before)) (λ k h. stuff_of c (j + k) (omega (arith, stuff_at k h)))
      (λ l. ap (is_data c) (sym (add-suc j m)) ∙ data_of c (j + suc m) stuff_behind)

-- ---- a run of data: m is how often P - c fits into the residue

under : (x y w k : ℕ) → w + y ≡ k * places → x % places < w → w ≤ x % places + places → (x + y) % places ≡ x % places + places - w
under x y w k e h l = omega arith

module _ (c j m : ℕ) (p : Place c j) (pos : c < places) (d : j * c % places < c)
    (low : m * (places - c) ≤ j * c % places) (high : j * c % places < m * (places - c) + (places - c)) where
  data_at : (k : ℕ) → k ≤ m → (j + k) * c % places ≡ j * c % places - k * (places - c)
  data_at k h = residue_down c j k p.count (omega (arith, mul-le-mul_right (places - c) h))

  data_before : j + m ≤ places
  data_before = by (dec_le (suc (places - j)) m)
    where
      by : Dec (suc (places - j) ≤ m) → j + m ≤ places
      by (yes h) =
          let e : j + (places - j) ≡ places = omega (arith, p.to) in
          let z = ap (λ (x : ℕ). x * c % places) (sym e) ∙ data_at (places - j) (omega arith) in
          let u : suc (places - j) * (places - c) ≡ (places - j) * (places - c) + (places - c) = omega arith in
          absurd (omega (arith, last_residue c, mul-le-mul_right (places - c) h))
      by (no n) = omega arith

  data_behind : c ≤ (j + suc m) * c % places
  data_behind =
      let w : suc m * (places - c) ≡ m * (places - c) + (places - c) = omega arith in
      rw (add-mul j (suc m) c, under (j * c) (suc m * c) (suc m * (places - c)) (suc m) (split c (suc m) p.count) (omega arith) (omega arith)) (omega arith)

  pub data_ends : EndsRun c j (j + m)
  data_ends =
      ends_by c j m true data_before (λ k h. data_of c (j + k) (omega (arith, data_at k h)))
      (λ l. ap (is_data c) (sym (add-suc j m)) ∙ stuff_of c (j + suc m) data_behind)

-- ---- the code's two formulas

pub stuff_last : (c j : ℕ) → Place c j → is_data c j ≡ false → (c ≡ 0 → ⊥) → j + (places - 1 - j * c % places) / c ≡ last_of_run c j
stuff_last c j p e n =
    let pos : 0 < c = omega arith in
    let m = (places - 1 - j * c % places) / c in
    ends_last c j (j + m) (stuff_ends c j m p pos (stuff_residue c j e) (div-mul-le_self (places - 1 - j * c % places) c) (lt-div-mul-add pos))

pub data_last : (c j : ℕ) → Place c j → is_data c j ≡ true → (c ≡ places → ⊥) → j + j * c % places / (places - c) ≡ last_of_run c j
data_last c j p e n =
    let below : c < places = omega (arith, p.count) in
    let m = j * c % places / (places - c) in
    ends_last c j (j + m) (data_ends c j m p below (data_residue c j e) (div-mul-le_self (j * c % places) (places - c)) (lt-div-mul-add (omega arith)))

pub last_to : {c j l : ℕ} → Place c j → l ≡ last_of_run c j → l ≤ places
last_to {c} {j} p e = omega (arith, (last_ends c j p.to).to)

-- ---- handing over: what holds where a run that ends at l goes over to the other kind

pub record Handed (c j l : ℕ) : Type 0 where
  pub behind : Place c (l + 1)
  pub fewer : places - (l + 1) < places - j
  pub other : is_data c (l + 1) ≡ not (is_data c j)
  pub counts : 1 + runs_from c (l + 1) ≡ runs_from c j

pub ended : (c j l : ℕ) → Place c j → l ≡ last_of_run c j → l ≡ places → 1 ≡ runs_from c j
ended c j l p e h = sym (runs_last c j (rw (← e, h) at (last_ends c j p.to)))

pub handed : (c j l : ℕ) → Place c j → l ≡ last_of_run c j → (l ≡ places → ⊥) → Handed c j l
handed c j l p e n =
    let r : EndsRun c j l = rw (← e) at (last_ends c j p.to) in
    let h : l < places = omega (arith, r.to) in
    let s : l + 1 ≡ suc l = omega arith in
    record {
      behind = record { count = p.count; from = omega arith; to = omega arith };
      fewer = omega (arith, r.from);
      other = rw s (r.other h);
      counts = rw s (omega (arith, runs_more c j l r h));
    }
