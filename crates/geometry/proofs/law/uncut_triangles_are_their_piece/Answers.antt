use Rattle.geometry.proofs.PiecesKept.{front_kept, whole_kept}
use Rattle.geometry.proofs.law.uncut_triangles_are_their_piece.Goals as goal

pub returns : goal.returns
returns c = record { whole = whole_kept; front = front_kept }
