-- The laws of levels: the nearest level by tests, a pair and its level, a byte and its symbol. Assumes nothing.
use Prim.Native.Nat.{ℕ, zero, suc, ◌+◌, ◌*◌, ◌/◌, ◌%◌, ◌<◌}
use mathlib.Core.Bool.{Bool, true, false, cond}
use mathlib.Core.Path.{◌≡◌, refl, sym, ap, ap₂, ◌∙◌}
use native.Mathlib.Omega.{arith}
use mir.Syntax.{w8}
use mir.Val.{SFits, to_z, of_z}
use mir.ValLaws.{to_z-of_z}
use lib.Dec.{lit<}
use lib.IntN.{ℤ, pos, negsuc}
use lib.Signed.{lt_z}
use Rattle.bits.specs.Bits.{digit}
use Rattle.prelude.proofs.Common.{agree}
use Rattle.symbol.specs.declared.Symbol.{Symbol}
use Rattle.symbol.specs.Levels.{level_of, pair_of, symbol_of, byte_of_symbol}

-- ---- the nearest level, by three tests

-- a test of a number with a sign, as the code makes it
pub test_of : (v l : ℤ) (b : Bool) → SFits w8 v → lt_z (to_z w8 (of_z w8 v)) l ≡ b → lt_z v l ≡ b
test_of v l b f e = ap (λ (u : ℤ). lt_z u l) (sym (to_z-of_z w8 v f)) ∙ e

choice_lt : (a b c : Bool) → cond a 0 (cond b 1 (cond c 3 2)) < 4
choice_lt true b c = lit< tt
choice_lt false true c = lit< tt
choice_lt false false true = lit< tt
choice_lt false false false = lit< tt

pub pair_small : (r : ℕ) (v : ℤ) → r ≡ pair_of v → r < 4
unfolding pair_of
pair_small r v e = rw e (choice_lt (lt_z v (negsuc 1)) (lt_z v (pos 0)) (lt_z v (pos 2)))

-- ---- a pair and its level

pub pair_level : (a b : ℕ) → a < 2 → b < 2 → pair_of (level_of a b) ≡ 2 * a + b
unfolding pair_of level_of
pair_level zero zero h k = refl
pair_level zero (suc zero) h k = refl
pair_level (suc zero) zero h k = refl
pair_level (suc zero) (suc zero) h k = refl
pair_level zero (suc (suc b)) h k = absurd (omega arith)
pair_level (suc zero) (suc (suc b)) h k = absurd (omega arith)
pair_level (suc (suc a)) b h k = absurd (omega arith)

-- a level fits a byte with a sign
pub level_fits : (v : ℤ) (a b : ℕ) → v ≡ level_of a b → to_z w8 (of_z w8 v) ≡ level_of a b
unfolding level_of
level_fits v zero zero e = rw e
level_fits v zero (suc b) e = rw e
level_fits v (suc a) zero e = rw e
level_fits v (suc a) (suc b) e = rw e

-- so the level of a level's pair is that level
pub level_back : (a b : ℕ) → a < 2 → b < 2 → level_of (pair_of (level_of a b) / 2) (pair_of (level_of a b) % 2) ≡ level_of a b
level_back a b h k = rw (pair_level a b h k) (ap₂ level_of (omega arith) (omega arith))

-- ---- a byte and its symbol

-- the symbol of four levels, each of the two lowest bits of what is left of the byte
pub symbol_is : (x : ℕ) (a b c d : ℤ)
    → a ≡ level_of (x / 64 / 2 % 2) (x / 64 % 2)
    → b ≡ level_of (x / 16 / 2 % 2) (x / 16 % 2)
    → c ≡ level_of (x / 4 / 2 % 2) (x / 4 % 2)
    → d ≡ level_of (x / 2 % 2) (x % 2)
    → ◌≡◌ {A = Symbol} (record { xi = to_z w8 (of_z w8 a); xq = to_z w8 (of_z w8 b); yi = to_z w8 (of_z w8 c); yq = to_z w8 (of_z w8 d) }) (symbol_of x)
unfolding symbol_of digit
symbol_is x a b c d p q r t =
    let xi : to_z w8 (of_z w8 a) ≡ level_of (x / 128 % 2) (x / 64 % 2) = level_fits a (x / 64 / 2 % 2) (x / 64 % 2) p ∙ ap₂ level_of (omega arith) refl in
    let xq : to_z w8 (of_z w8 b) ≡ level_of (x / 32 % 2) (x / 16 % 2) = level_fits b (x / 16 / 2 % 2) (x / 16 % 2) q ∙ ap₂ level_of (omega arith) refl in
    let yi : to_z w8 (of_z w8 c) ≡ level_of (x / 8 % 2) (x / 4 % 2) = level_fits c (x / 4 / 2 % 2) (x / 4 % 2) r ∙ ap₂ level_of (omega arith) refl in
    let yq : to_z w8 (of_z w8 d) ≡ level_of (x / 2 % 2) (x / 1 % 2) = level_fits d (x / 2 % 2) (x % 2) t ∙ ap₂ level_of refl (omega arith) in
    rw (xi, xq, yi, yq)

pub byte_symbol : (x : ℕ) → x < 256 → byte_of_symbol (symbol_of x) ≡ x
unfolding byte_of_symbol symbol_of pair_of level_of digit
byte_symbol = agree (λ x. byte_of_symbol (symbol_of x)) (λ x. x) 256 tt

-- the pair of a level that was carried in a byte with a sign
pair_of_law : (r : ℕ) (v : ℤ) → SFits w8 v → r ≡ pair_of (to_z w8 (of_z w8 v)) → r ≡ pair_of v
pair_of_law r v f e = e ∙ ap pair_of (to_z-of_z w8 v f)

pub byte_is : (s : Symbol) (a b c d : ℕ)
    → SFits w8 s.xi → SFits w8 s.xq → SFits w8 s.yi → SFits w8 s.yq
    → a ≡ pair_of (to_z w8 (of_z w8 s.xi))
    → b ≡ pair_of (to_z w8 (of_z w8 s.xq))
    → c ≡ pair_of (to_z w8 (of_z w8 s.yi))
    → d ≡ pair_of (to_z w8 (of_z w8 s.yq))
    → 64 * a + 16 * b + 4 * c + d ≡ byte_of_symbol s
unfolding byte_of_symbol
byte_is s a b c d f g h k p q r t =
    rw (pair_of_law a s.xi f p, pair_of_law b s.xq g q, pair_of_law c s.yi h r, pair_of_law d s.yq k t)
