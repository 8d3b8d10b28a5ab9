use Rattle.std.proofs.Common.{arith}
use Rattle.crc32c.specs.declared.tables.TheConstants.{TABLE_0, TABLE_1, TABLE_2, TABLE_3, TABLE_4, TABLE_5, TABLE_6, TABLE_7}
use Rattle.crc32c.proofs.Entries.{eight_looked_up, is_table_0, is_table_1, is_table_2, is_table_3, is_table_4, is_table_5, is_table_6, is_table_7}
use Rattle.crc32c.proofs.register.behind_64.Goals as goal

pub returns : goal.returns
returns c =
    eight_looked_up 0 c.args.word TABLE_0 TABLE_1 TABLE_2 TABLE_3 TABLE_4 TABLE_5 TABLE_6 TABLE_7 (omega arith)
    is_table_0 is_table_1 is_table_2 is_table_3 is_table_4 is_table_5 is_table_6 is_table_7
