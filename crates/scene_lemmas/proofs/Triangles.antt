-- A triangle that is turned round, and of two pixels the nearer one.
use Rattle.std.proofs.Common.{◌≡◌, pos, ◌<ℤ◌, ap, ◌≤◌, refl, le-ltb}
use Rattle.std.specs.Prelude.{if◌then◌else◌}
use Rattle.rc_base.specs.Drawing.Cover.{triangle_area}
use Rattle.rc_base.specs.Drawing.Kept.{three, oriented}
use Rattle.rc_base.specs.Drawing.Nearer.{nearer}
use Rattle.rc_base.specs.declared.window.Pixel.{Pixel}
use Rattle.rc_base.specs.declared.window.WindowVertex.{WindowVertex}
use Rattle.plain_lemmas.proofs.Numbers.{int_lt_true}

pub turned_round : (a b c : WindowVertex) → triangle_area (three a b c) <ℤ pos 0 → oriented a b c ≡ three a c b
unfolding oriented
turned_round a b c h = ap (λ t. if t then three a c b else three a b c) (int_lt_true (triangle_area (three a b c)) (pos 0) h)

pub nearer_is_first : (a b : Pixel) → a.depth ≤ b.depth → nearer a b ≡ a
nearer_is_first a b le = rw (le-ltb _ _ le) refl
