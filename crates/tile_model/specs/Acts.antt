-- What the acts of parcels do.
use Rattle.std.specs.Prelude.{Bool, true, false}
use Rattle.rc_base.specs.declared.state.Act.{Act}
use Rattle.rc_base.specs.declared.state.Act.TheVariants as act

-- it draws
abbrev pub is_draw : Act → Bool
is_draw (act.Draw block) = true
is_draw (act.Clear mask) = false
is_draw (act.Shared part) = false
is_draw (act.Sync op) = false
is_draw act.End = false

-- it draws or clears
abbrev pub is_drawing : Act → Bool
is_drawing (act.Draw block) = true
is_drawing (act.Clear mask) = true
is_drawing (act.Shared part) = false
is_drawing (act.Sync op) = false
is_drawing act.End = false

-- it is work: it draws, clears or writes a shared texture
abbrev pub is_work : Act → Bool
is_work (act.Draw block) = true
is_work (act.Clear mask) = true
is_work (act.Shared part) = true
is_work (act.Sync op) = false
is_work act.End = false
