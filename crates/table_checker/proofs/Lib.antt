mod RowsRead
mod PageWalks
mod WholeTables
mod ProductPlaces
