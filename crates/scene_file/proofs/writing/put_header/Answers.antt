use Rattle.scene_file.proofs.WrittenSpells.{on_ok_map, header_put}
use Rattle.scene_file.proofs.writing.put_header.Goals as goal

pub returns-clause-added : goal.returns-clause-added
returns-clause-added c =
    on_ok_map c.put_halves.result
    (λ added version. header_put c.args.decl.now c.args.clients c.args.bytes.now c.magic_of.result c.extend_from_slice.new.self c.extend_from_slice-2.new.self c.extend_from_slice-3.new.self c.extend_from_slice-4.new.self c.put_sizes.new.bytes c.extend_from_slice-5.new.self c.put_halves.new.bytes
    c.to_le_bytes.result c.to_le_bytes-2.result c.as_slice-2.result.now c.as_slice-3.result.now c.as_slice.result.now c.len.result c.len-2.result c.len-3.result
    c.in_ok-extend_from_slice.ensures c.in_ok-extend_from_slice-2.ensures c.in_ok-extend_from_slice-3.ensures c.in_ok-extend_from_slice-4.ensures c.in_ok-put_sizes.ensures.added c.in_ok-extend_from_slice-5.ensures
    (c.magic_of.ensures version) c.to_le_bytes.ensures c.to_le_bytes-2.ensures c.len.ensures c.len-2.ensures c.len-3.ensures c.as_slice.ensures c.as_slice-2.ensures c.as_slice-3.ensures added)
    c.put_halves.ensures.added
