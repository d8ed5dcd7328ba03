use Rattle.pgpipe_tasks.proofs.command_line.serve.serve_command.Goals as goal

pub returns : goal.returns
returns c =
    let port = c.with_arg-command.ensures _ _ c.bare_serve_command.ensures c.port_arg.ensures in
    let connections = c.with_arg-command-2.ensures _ _ port c.connections_arg.ensures in
    let explain = c.with_arg-command-3.ensures _ _ connections c.explain_arg.ensures in
    c.with_arg.ensures _ _ explain c.path_arg.ensures
