use Rattle.std.proofs.Common.{◌≡◌, ℕ, subst}
use Rattle.rc_base.specs.declared.state.Parcel.{Parcel}
use Rattle.tile_server.specs.Cores.{IsTileStep}
use Rattle.tile_server.specs.declared.deed.Taking.{Taking}
use Rattle.tile_server.specs.declared.deed.TileDeed.TheVariants as deed
use Rattle.tile_server.specs.declared.tile_core.TileCore.{TileCore}
use Rattle.tile_server.proofs.tile_core.TileCore.open.Goals as goal

-- a step with what was read of a parcel is one with the parcel
takes_read : (core later : TileCore) (client : ℕ) (how : Taking) (p q : Parcel) → p ≡ q
    → IsTileStep core (deed.Takes client p how) later → IsTileStep core (deed.Takes client q how) later
takes_read core later client how p q e = subst (λ (r : Parcel). IsTileStep core (deed.Takes client r how) later) e

-- The room is no part of what contracts see of the core.
pub serve-requires-clause-free : goal.serve-requires-clause-free
serve-requires-clause-free c =
    let f = c.requires.free in
    record {
      take = record { undue = λ e d. f.take.undue e (record { ample = d.ample; known = d.known; held = d.held }); low = f.take.low; asked = f.take.asked };
      ample = f.ample;
      free = f.free;
    }

pub lose-requires : goal.lose-requires
lose-requires c =
    let f = c.requires.free in
    record {
      free = record {
        take = record { undue = λ e d. f.take.undue e (record { ample = d.ample; known = d.known; held = d.held }); low = f.take.low; asked = f.take.asked };
        ample = f.ample;
        free = f.free;
      };
    }

pub returns-in-Ok : goal.returns-in-Ok
returns-in-Ok c =
    let s = c.serve.ensures in
    takes_read c.args.self.now c.serve.new.self c.args.client c.serve.result c.in-Ok.read c.args.parcel.now c.in-Ok.ensures (record {
      same = record { decl = s.same.decl; clients = s.same.clients; layout = s.same.layout; tile = s.same.tile };
      short = s.short;
      ample = s.ample;
      rotation = s.rotation;
      first = λ p h. s.first p (record { ledger = h.ledger; frames = h.frames });
      after = λ p h. s.after p (record { ledger = h.ledger; frames = h.frames });
      drawn = λ p h. s.drawn p (record { ledger = h.ledger; frames = h.frames });
      shown = λ p h. s.shown p (record { ledger = h.ledger; frames = h.frames });
    })

pub returns-in-Err : goal.returns-in-Err
returns-in-Err c =
    let s = c.lose.ensures c.args.parcel.now c.requires.more in
    record {
      same = record { decl = s.same.decl; clients = s.same.clients; layout = s.same.layout; tile = s.same.tile };
      short = s.short;
      ample = s.ample;
      rotation = s.rotation;
      first = λ p h. s.first p (record { ledger = h.ledger; frames = h.frames });
      after = λ p h. s.after p (record { ledger = h.ledger; frames = h.frames });
      drawn = λ p h. s.drawn p (record { ledger = h.ledger; frames = h.frames });
      shown = λ p h. s.shown p (record { ledger = h.ledger; frames = h.frames });
    }
