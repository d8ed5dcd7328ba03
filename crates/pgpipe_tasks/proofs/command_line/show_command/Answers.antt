use Rattle.pgpipe_tasks.proofs.command_line.show_command.Goals as goal

pub returns : goal.returns
returns c =
    let front = c.with_arg-command.ensures _ _ c.bare_show_command.ensures c.flag_arg.ensures in
    let frames = c.with_arg-command-2.ensures _ _ front c.flag_arg-2.ensures in
    let decode = c.with_arg-command-3.ensures _ _ frames c.flag_arg-3.ensures in
    let json = c.with_arg-command-4.ensures _ _ decode c.flag_arg-4.ensures in
    let summary = c.with_arg-command-5.ensures _ _ json c.flag_arg-5.ensures in
    let front_file = c.with_arg.ensures _ _ summary c.text_arg-front_file.ensures in
    let back_file = c.with_arg-command-6.ensures _ _ front_file c.text_arg-back_file.ensures in
    let explain = c.with_arg-command-7.ensures _ _ back_file c.explain_arg.ensures in
    let progress = c.with_arg-command-8.ensures _ _ explain c.progress_arg.ensures in
    c.with_arg-2.ensures _ _ progress c.file_arg.ensures
