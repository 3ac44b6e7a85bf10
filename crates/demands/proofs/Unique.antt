-- Each contract of the client has one answer and one content of lent memory: a client that refuses always, never or at random does not meet them.
-- `Post` is the contract's own `ensures`. Assumes nothing.
use Prim.Native.Nat.{ℕ}
use mathlib.Core.Path.{◌≡◌}
use mathlib.Core.List.{List}
use Rattle.answer.proofs.Table.{only_demand_1}
use Rattle.answer.proofs.Results.{same_numbers, only_result}
use Rattle.demands.proofs.code.Reads as code
use Rattle.demands.proofs.read.Reads as read
use Rattle.demands.proofs.edit.Reads as edit
use Rattle.demands.proofs.code_flip_read.Reads as code-flip-read
use Rattle.demands.proofs.code_edit.Reads as code-edit
use Rattle.demands.proofs.map_unmap.Reads as map-unmap

-- s and t are the two states at exit, whose part 4 is `capture`
pub one_code : (κs : _) (a : _) (x y : _) (s t : _) → code.Post κs a x s → code.Post κs a y t → (x ≡ y) × (s.1.1.1.1.0.now ≡ t.1.1.1.1.0.now)
one_code κs a x y s t p q = let o = only_demand_1 p q in (same_numbers o.0, o.1)

-- parts 3 and 4 are `info` and `parity`
pub one_read : (κs : _) (a : _) (x y : _) (s t : _) → read.Post κs a x s → read.Post κs a y t
    → (x ≡ y) × ◌≡◌ {A = List ℕ × List ℕ} (s.1.1.1.0.now, s.1.1.1.1.0.now) (t.1.1.1.0.now, t.1.1.1.1.0.now)
one_read κs a x y s t p q = let o = only_demand_1 p q in (same_numbers o.0, o.1)

-- parts 4 and 5 are `capture` and `list`
pub one_edit : (κs : _) (a : _) (x y : _) (s t : _) → edit.Post κs a x s → edit.Post κs a y t
    → (x ≡ y) × ◌≡◌ {A = List ℕ × List ℕ} (s.1.1.1.1.0.now, s.1.1.1.1.1.0.now) (t.1.1.1.1.0.now, t.1.1.1.1.1.0.now)
one_edit κs a x y s t p q = let o = only_demand_1 p q in (same_numbers o.0, o.1)

-- parts 5, 6 and 7 are `capture`, `back` and `parity_back`
pub one_code_flip_read : (κs : _) (a : _) (x y : _) (s t : _) → code-flip-read.Post κs a x s → code-flip-read.Post κs a y t
    → (x ≡ y) × ◌≡◌ {A = List ℕ × (List ℕ × List ℕ)}
    (s.1.1.1.1.1.0.now, (s.1.1.1.1.1.1.0.now, s.1.1.1.1.1.1.1.0.now))
    (t.1.1.1.1.1.0.now, (t.1.1.1.1.1.1.0.now, t.1.1.1.1.1.1.1.0.now))
one_code_flip_read κs a x y s t p q = only_result p q

-- parts 7 and 8 are `capture` and `list`
pub one_code_edit : (κs : _) (a : _) (x y : _) (s t : _) → code-edit.Post κs a x s → code-edit.Post κs a y t
    → (x ≡ y) × ◌≡◌ {A = List ℕ × List ℕ}
    (s.1.1.1.1.1.1.1.0.now, s.1.1.1.1.1.1.1.1.0.now)
    (t.1.1.1.1.1.1.1.0.now, t.1.1.1.1.1.1.1.1.0.now)
one_code_edit κs a x y s t p q = only_result p q

-- parts 4 and 5 are `window` and `back`
pub one_map_unmap : (κs : _) (a : _) (x y : _) (s t : _) → map-unmap.Post κs a x s → map-unmap.Post κs a y t
    → (x ≡ y) × ◌≡◌ {A = List ℕ × List ℕ} (s.1.1.1.1.0.now, s.1.1.1.1.1.0.now) (t.1.1.1.1.0.now, t.1.1.1.1.1.0.now)
one_map_unmap κs a x y s t p q = only_result p q
