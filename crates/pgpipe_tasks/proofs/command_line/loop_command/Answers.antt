use Rattle.pgpipe_tasks.proofs.command_line.loop_command.Goals as goal

pub returns : goal.returns
returns c =
    let tcp = c.with_arg-command.ensures _ _ c.bare_loop_command.ensures c.flag_arg.ensures in
    let breaks = c.with_arg-command-2.ensures _ _ tcp c.flag_arg-2.ensures in
    let trace = c.with_arg-command-3.ensures _ _ breaks c.flag_arg-3.ensures in
    let comments = c.with_arg-command-4.ensures _ _ trace c.flag_arg-4.ensures in
    let cut = c.with_arg-command-5.ensures _ _ comments c.cut_arg.ensures in
    let explain = c.with_arg-command-6.ensures _ _ cut c.explain_arg.ensures in
    let script = c.with_arg-command-7.ensures _ _ explain c.path_arg.ensures in
    c.with_arg.ensures _ _ script c.path_arg-2.ensures
