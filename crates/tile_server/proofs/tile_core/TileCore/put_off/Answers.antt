use Rattle.std.proofs.Common.{ℕ, false, sym, ap, ◌∙◌, subst, true≢false, arith, rules}
use Rattle.std.proofs.lemmas.Result.{on_ok_weaker}
use Rattle.rc_base.specs.declared.state.Parcel.{Parcel}
use Rattle.tile_model.specs.Boards.{IsCarriedOut}
use Rattle.tile_model.specs.Items.{after_work}
use Rattle.tile_server.specs.Boards.{is_plain}
use Rattle.tile_server.specs.LazyBoards.{board_in}
use Rattle.tile_server.specs.Ledgers.{IsLedgerStep}
use Rattle.tile_server.proofs.PlainBlocks.{plain_given}
use Rattle.tile_server.proofs.tile_core.TileCore.put_off.Goals as goal

pub put_off-requires : goal.put_off-requires
put_off-requires c = record { client = omega (arith, c.requires.client, c.args.self.now.clients); plain = ap is_plain c.in_ok-copy.ensures.cases ∙ c.requires.plain }

pub returns : goal.returns
returns c =
    let core = c.args.self.now in
    let drawn = core.canvas.drawn in
    let client = c.args.client in
    let parcel = c.args.parcel.now in
    record {
      alike = search rules;
      worked = on_ok_weaker c.log_work.result (λ step. record {
        ledger = subst (λ (n : ℕ). IsLedgerStep false core.ledger (λ p. after_work p client n) false c.log_work.new.self) c.place.ensures step;
        done = λ given. subst (λ (p : Parcel). IsCarriedOut drawn.decl drawn.layout client drawn.tile p (board_in core.canvas) (board_in c.put_off.new.self)) c.in_ok-copy.ensures.cases c.put_off.ensures.done;
        ignored = λ lost. absurd (true≢false (sym (plain_given drawn.decl parcel c.requires.plain) ∙ lost));
      }) c.log_work.ensures.done;
      ledger = c.log_work.ensures.unchanged;
    }
