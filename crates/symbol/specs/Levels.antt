-- DP-16QAM symbols, 001 section 11 and Table 12: byte k of a word is symbol k. Assumes nothing: these are definitions.
use Rattle.std.specs.Prelude.{ℕ, zero, suc, ◌+◌, ◌*◌, cond, ℤ, pos, negsuc}
use Rattle.std.specs.Int.Signed.{lt_z}
use Rattle.bits.specs.Bits.{digit}
use Rattle.symbol.specs.declared.Symbol.{Symbol}

-- "(0,0) → -3, (0,1) → -1, (1,1) → +1, (1,0) → +3". (negsuc n is -(n + 1))
unfoldable pub level_of : ℕ → ℕ → ℤ
level_of zero zero = negsuc 2
level_of zero (suc b) = negsuc 0
level_of (suc a) (suc b) = pos 1
level_of (suc a) zero = pos 3

-- the pair of bits, the first on top, whose level is nearest to v; of two as near, the larger
unfoldable pub pair_of : ℤ → ℕ
pair_of v = cond (lt_z v (negsuc 1)) 0 (cond (lt_z v (pos 0)) 1 (cond (lt_z v (pos 2)) 3 2))

-- the symbol of a byte: c0 c1 are the in-phase component of the X polarization, c2 c3 its quadrature, c4 c5 and c6 c7 those of Y
unfoldable pub symbol_of : ℕ → Symbol
symbol_of x =
    record {
      xi = level_of (digit 8 x 0) (digit 8 x 1);
      xq = level_of (digit 8 x 2) (digit 8 x 3);
      yi = level_of (digit 8 x 4) (digit 8 x 5);
      yq = level_of (digit 8 x 6) (digit 8 x 7);
    }

-- and its byte
unfoldable pub byte_of_symbol : Symbol → ℕ
byte_of_symbol s = 64 * pair_of s.xi + 16 * pair_of s.xq + 4 * pair_of s.yi + pair_of s.yq
