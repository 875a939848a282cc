use Rattle.std.proofs.Common.{arith, None}
use Rattle.rc_base.specs.Drawing.Kept.{vertex_at}
use Rattle.geometry.specs.Pieces.{ArePieces}
use Rattle.rc_base.specs.Drawing.Pieces.{vertex_pieces}
use Rattle.geometry.proofs.PiecesKept.{whole_pieces, cut_pieces, all_kept}
use Rattle.geometry.proofs.cutting.pieces.Goals as goal

whole : (c : goal.After-to_window) → ArePieces c.args.state.now (vertex_pieces c.args.state.now c.args.mode (vertex_at c.args.corners.now 0) (vertex_at c.args.corners.now 1) (vertex_at c.args.corners.now 2)) (record { first = c.to_window.result; second = None })
whole c = whole_pieces c.args.state.now c.args.mode (vertex_at c.args.corners.now 0) (vertex_at c.args.corners.now 1) (vertex_at c.args.corners.now 2) c.to_window.result (omega arith) c.to_window.ensures

cut : (c : goal.After-cut) → ArePieces c.args.state.now (vertex_pieces c.args.state.now c.args.mode (vertex_at c.args.corners.now 0) (vertex_at c.args.corners.now 1) (vertex_at c.args.corners.now 2)) c.cut.result
cut c = cut_pieces c.args.state.now c.args.mode (vertex_at c.args.corners.now 0) (vertex_at c.args.corners.now 1) (vertex_at c.args.corners.now 2) c.cut.result (omega arith) c.cut.ensures

pub returns-then-mode-lt-CUT_MODES : goal.returns-then-mode-lt-CUT_MODES
returns-then-mode-lt-CUT_MODES c = let w = whole c in record { first = w.first; second = w.second; all = all_kept _ _ _ _ _ _ w }

pub returns : goal.returns
returns c = let w = cut c in record { first = w.first; second = w.second; all = all_kept _ _ _ _ _ _ w }
