mod OpTables
mod LastWords
