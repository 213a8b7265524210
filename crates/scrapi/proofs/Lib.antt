mod Created
mod Seating
