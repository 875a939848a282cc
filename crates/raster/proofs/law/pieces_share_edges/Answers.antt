use Rattle.raster.proofs.NearEdges.{front_edges_are_shared, front_edges_are_edges, diagonal_is_shared, neighbours_share_their_cut}
use Rattle.raster.proofs.law.pieces_share_edges.Goals as goal

pub returns : goal.returns
returns c = record { turned = front_edges_are_shared; edges = front_edges_are_edges; diagonal = diagonal_is_shared; neighbours = neighbours_share_their_cut }
