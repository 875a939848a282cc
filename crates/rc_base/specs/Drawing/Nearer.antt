-- Pixels that are put together by depth.
use Rattle.std.specs.Prelude.{nat_lt, if◌then◌else◌}
use Rattle.rc_base.specs.declared.window.Pixel.{Pixel}

-- of two pixels the nearer one, and of equally near ones the first
abbrev pub nearer : Pixel → Pixel → Pixel
nearer a b = if nat_lt b.depth a.depth then b else a
