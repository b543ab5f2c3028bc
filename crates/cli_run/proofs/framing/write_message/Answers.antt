use Rattle.cli_run.proofs.framing.write_message.Goals as goal

pub returns : goal.returns
returns g c =
    g.met.D.Draft.joins _ _ _ _ _ c.write_file_header.ensures (g.met.D.Draft.joins _ _ _ _ _ c.write_packet_header.ensures c.append.ensures)
