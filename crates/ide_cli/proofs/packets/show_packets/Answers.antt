use Rattle.ide_cli.proofs.packets.show_packets.Goals as goal

pub returns : goal.returns
returns g c = c.run_file.ensures.files tt tt
