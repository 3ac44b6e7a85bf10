-- Each public contract has one answer: two results that meet it are the same. `Post` is the contract's own `ensures`, so a weaker contract would not
-- pass here. Assumes nothing.
use mathlib.Core.Path.{◌≡◌, sym, ◌∙◌}
use Rattle.buffer_sizes.proofs.large_space.Reads as large-space
use Rattle.buffer_sizes.proofs.small_space.Reads as small-space
use Rattle.buffer_sizes.proofs.information.Reads as information
use Rattle.buffer_sizes.proofs.parity.Reads as parity
use Rattle.buffer_sizes.proofs.capture.Reads as capture
use Rattle.buffer_sizes.proofs.window.Reads as window
use Rattle.buffer_sizes.proofs.groups.Reads as groups

pub one_large_space : (κs : _) (a : _) (x y : _) (s t : _) → large-space.Post κs a x s → large-space.Post κs a y t → x ≡ y
one_large_space κs a x y s t p q = p.1 ∙ sym q.1

pub one_small_space : (κs : _) (a : _) (x y : _) (s t : _) → small-space.Post κs a x s → small-space.Post κs a y t → x ≡ y
one_small_space κs a x y s t p q = p.1 ∙ sym q.1

pub one_information : (κs : _) (a : _) (x y : _) (s t : _) → information.Post κs a x s → information.Post κs a y t → x ≡ y
one_information κs a x y s t p q = p.is ∙ sym q.is

pub one_parity : (κs : _) (a : _) (x y : _) (s t : _) → parity.Post κs a x s → parity.Post κs a y t → x ≡ y
one_parity κs a x y s t p q = p.is ∙ sym q.is

pub one_capture : (κs : _) (a : _) (x y : _) (s t : _) → capture.Post κs a x s → capture.Post κs a y t → x ≡ y
one_capture κs a x y s t p q = p.is ∙ sym q.is

pub one_window : (κs : _) (a : _) (x y : _) (s t : _) → window.Post κs a x s → window.Post κs a y t → x ≡ y
one_window κs a x y s t p q = p.is ∙ sym q.is

pub one_groups : (κs : _) (a : _) (x y : _) (s t : _) → groups.Post κs a x s → groups.Post κs a y t → x ≡ y
one_groups κs a x y s t p q = p.is ∙ sym q.is
